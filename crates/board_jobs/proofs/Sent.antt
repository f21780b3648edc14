-- Lemmas on what a job sends to the chip, derived from the promises of its call to the engine.
use Rattle.std.proofs.Common.{◌≡◌, ◌⊎◌, ℕ, Bool, List, Option, None, Some, Result, Ok, Err, false, inl, inr, refl, subst, true}
use Rattle.nor_model.specs.Bus.{BusState}
use Rattle.nor_files.specs.Files.{FilesState, View, is_lawful}
use Rattle.nor_layout.specs.declared.ranges.Span.{Span}
use Rattle.nor_probe.specs.declared.probes.Found.{Found}
use Rattle.nor_probe.specs.declared.table.ChipName.{ChipName}
use Rattle.nor_request.specs.declared.refusal.Refusal.{Refusal}
use Rattle.nor_request.specs.declared.refusal.Refusal.TheVariants.{Memory}
use Rattle.nor_request.specs.declared.request.Request.{Request}
use Rattle.nor_request.specs.declared.request.What.{What}
use Rattle.nor_args.specs.Text.{Text}
use Rattle.nor_args.specs.declared.job.Change.{Change}
use Rattle.nor_args.specs.declared.job.JournalUse.{JournalUse}
use Rattle.nor_args.specs.declared.job.JournalUse.TheVariants as uses
use Rattle.nor_args.specs.declared.job.Operation.{Operation}
use Rattle.nor_args.specs.declared.job.Task.{Task}
use Rattle.nor_args.specs.declared.job.Task.TheVariants as task
use Rattle.nor_args.specs.declared.job.Wanted.{Wanted}
use Rattle.nor_args.specs.declared.job.Wanted.TheVariants as wanted
use Rattle.nor_console.specs.Requests.{what_of}
use Rattle.nor_console.specs.Sessions.{HasRunInFile}
use Rattle.nor_console.specs.declared.answers.Answer.{Answer}
use Rattle.nor_console.specs.declared.messages.Fault.{Fault}
use Rattle.nor_console.specs.declared.messages.Fault.TheVariants as end
use Rattle.board_jobs.specs.Following.{FailsToFollow, FailsToMerge, IsFollowed, IsWholeTarget}
use Rattle.board_jobs.specs.Jobs.{DoesTask, FailsBefore, FailsComparison, FailsPerform, FailsToChange}
use Rattle.board_jobs.specs.Jobs.{FailsToFill, FailsToTarget, HasChangedBy, HasReadBy, HasRunChange, HasTarget}
use Rattle.board_jobs.specs.Jobs.{IsBufferOf}
use Rattle.board_files.specs.Tasks.{is_compared}
use Rattle.nor_jobs.specs.Sources.{asked_bytes}
use Rattle.board_jobs.specs.Jobs.{EndsJob, IsEndedAs}
use Rattle.board_jobs.specs.declared.chip_faults.JobFault.{JobFault}
use Rattle.board_jobs.specs.declared.chip_faults.JobFault.TheVariants as ended
use Rattle.board_jobs.specs.Sends.{KeepsSent, SendsChange, SendsJournalled, SendsOnly}
use Rattle.board_jobs.proofs.SentFitted.{job_restore_fails, of_journal, reads_on, restored_sends, same_keeps_sent}
use Rattle.board_jobs.proofs.SentFitted.{sends_after, sends_before}

-- If the journal of a session is not sealed, the session sends no modifying command. If the journal is sealed and files
-- obey their contract, what is sent fits the journal.
module _ (request : Request) (image : List ℕ) (file : Text) (before : View) (after : FilesState)
    (old found new : BusState) (outcome : Result Answer Refusal)
    (ran : HasRunInFile request image file before after found new outcome) (same : KeepsSent old found) where
  by_seal : (sealed : Bool) → ran.vault'.sealed ≡ sealed
      → KeepsSent old new ⊎ (is_lawful after.view ≡ true → SendsJournalled request.what file old new after)
  by_seal false is = inl (reads_on old found new same (ran.ran.keeps.unsent is))
  by_seal true is = inr (λ lawful.
      let kept = ran.kept_in lawful in
      let sends = ran.ran.always.sends is kept.telling in
      record {
        bytes = ran.vault'.bytes;
        journal = sends.0;
        durable = kept.durable is;
        sends = sends_after _ _ old found new same sends.1;
      })

  session_sends : KeepsSent old new ⊎ (is_lawful after.view ≡ true → SendsJournalled request.what file old new after)
  session_sends = by_seal ran.vault'.sealed refl

target_reads : (named : Option ChipName) (ranges : Option (List Span)) (image : List ℕ) (old new : BusState)
    (target : List ℕ) → IsWholeTarget named ranges image old new target → KeepsSent old new
target_reads named None image old new target is = same_keeps_sent old new is.0
target_reads named (Some spans) image old new target is = is.read.always.only_reads.sent

made_reads : (named : Option ChipName) (target : Wanted) (ranges : Option (List Span)) (bytes : List ℕ)
    (old new : BusState) (image : List ℕ) → HasTarget named target ranges bytes old new image → KeepsSent old new
made_reads named target ranges bytes old new image is =
    reads_on old is.found new is.changeable.identified.always.only_reads.sent
    (target_reads named ranges _ is.found new image is.is)

buffer_reads : (named : Option ChipName) (target : Wanted) (ranges : Option (List Span)) (bytes : List ℕ)
    (old new : BusState) (image : List ℕ) → IsBufferOf named target ranges bytes old new image → KeepsSent old new
buffer_reads named (wanted.Range start len) ranges bytes old new image is = same_keeps_sent old new is.0
buffer_reads named target ranges bytes old new image is = made_reads named target ranges bytes old new image is

module _ (what : What) (file : Text) (old changed new : BusState) (after : FilesState)
    (same : KeepsSent changed new) where
  journalled_before : SendsJournalled what file old changed after → SendsJournalled what file old new after
  journalled_before sends = record {
    bytes = sends.bytes;
    journal = sends.journal;
    durable = sends.durable;
    sends = sends_before _ _ old changed new sends.sends same;
  }

  reads_after : KeepsSent old changed ⊎ (is_lawful after.view ≡ true → SendsJournalled what file old changed after)
      → KeepsSent old new ⊎ (is_lawful after.view ≡ true → SendsJournalled what file old new after)
  reads_after (inl kept) = inl (reads_on old changed new kept same)
  reads_after (inr sends) = inr (λ lawful. journalled_before (sends lawful))

run_sends : (operation : Operation) (change : Change) (ranges : Option (List Span)) (bytes : List ℕ)
    (file : Text) (before : View) (after : FilesState) (old new : BusState) (outcome : Result Answer Refusal)
    → HasRunChange operation change ranges bytes file before after old new outcome
    → KeepsSent old new ⊎ (is_lawful after.view ≡ true
    → SendsJournalled (what_of change.wanted) file old new after)
run_sends operation change ranges bytes file before after old new outcome ran =
    session_sends _ ran.image file before after old ran.found new outcome ran.ran
    (buffer_reads operation.named change.wanted _ bytes old ran.found ran.image ran.buffer)

follow_reads : (session : Result Answer Refusal) (compared : Bool) (named : Option ChipName) (target : List ℕ)
    (old new : BusState) → IsFollowed session compared named target old new → KeepsSent old new
follow_reads (Ok found) true named target old new is = is.1.always.only_reads.sent
follow_reads (Ok found) false named target old new is = same_keeps_sent old new is
follow_reads (Err refusal) compared named target old new is = same_keeps_sent old new is

fails_reads : (found : Answer) (compared : Bool) (named : Option ChipName) (target : List ℕ) (old new : BusState)
    (refusal : Refusal) → FailsToFollow (Ok found) compared named target old new (ended.NotCompared refusal)
    → KeepsSent old new
fails_reads found true named target old new refusal is = is.always.only_reads.sent
fails_reads found false named target old new refusal is = absurd is

change_sends : (operation : Operation) (change : Change) (ranges : Option (List Span)) (bytes : List ℕ)
    (kept : JournalUse) (before : View) (after : FilesState) (old new : BusState) (outcome : Result Answer Refusal)
    → HasChangedBy operation change ranges bytes kept before after old new outcome
    → SendsChange (what_of change.wanted) kept old new after
change_sends operation change ranges bytes (uses.Journal file) before after old new outcome does =
    reads_after _ file.now old does.changed new after
    (follow_reads outcome (is_compared operation change) operation.named does.session.image does.changed new does.followed)
    (run_sends operation change ranges bytes file.now before after old does.changed outcome does.session)
change_sends operation change ranges bytes (uses.Rehearse stops) before after old new outcome does = absurd does

read_sends : (backup : Bool) (named : Option ChipName) (file : Text) (ranges : Option (List Span)) (before : View)
    (after : FilesState) (old new : BusState) (outcome : Result Answer Refusal)
    → HasReadBy backup named file ranges before after old new outcome → KeepsSent old new
read_sends true named file ranges before after old new outcome does =
    reads_on old does.found new does.identified.always.only_reads.sent does.saved.ran.always.only_reads.sent
read_sends false named file ranges before after old new outcome does =
    reads_on old does.found new does.identified.always.only_reads.sent does.read.read.always.only_reads.sent

task_sends : (operation : Operation) (job : Task) (ranges : Option (List Span)) (bytes : List ℕ) (before : View)
    (after : FilesState) (old new : BusState) (outcome : Result Answer Refusal)
    → DoesTask operation job ranges bytes before after old new outcome → SendsOnly job bytes old new after
task_sends operation task.Probe ranges bytes before after old new outcome does = does.identified.always.only_reads.sent
task_sends operation task.FlashSize ranges bytes before after old new outcome does = does.identified.always.only_reads.sent
task_sends operation task.WpStatus ranges bytes before after old new outcome does = does.always.only_reads.sent
task_sends operation task.WpList ranges bytes before after old new outcome does = does.always.only_reads.sent
task_sends operation (task.Read file regions) ranges bytes before after old new outcome does =
    read_sends operation.is_backup operation.named file.now ranges before after old new outcome does
task_sends operation (task.Verify file regions) ranges bytes before after old new outcome does = does.always.only_reads.sent
task_sends operation (task.Change change) ranges bytes before after old new outcome does =
    change_sends operation change ranges bytes change.journal_use before after old new outcome does
task_sends operation (task.Restore journal) ranges bytes before after old new outcome does =
    of_journal bytes does.journal does.sound does.read old new
    (restored_sends operation does.journal old new outcome operation.verifies_all does.restored)

merge_fails_reads : (named : Option ChipName) (size : ℕ) (ranges : Option (List Span)) (image : List ℕ)
    (old new : BusState) (refusal : Refusal) → FailsToMerge named size ranges image old new refusal → KeepsSent old new
merge_fails_reads named size None image old new refusal fails = absurd fails
merge_fails_reads named size (Some spans) image old new refusal (inl unfit) = same_keeps_sent old new unfit.0
merge_fails_reads named size (Some spans) image old new refusal (inr (inl read)) = read.2.always.only_reads.sent
merge_fails_reads named size (Some spans) image old new refusal (inr (inr other)) = other.read.always.only_reads.sent

no_target_reads : (named : Option ChipName) (target : Wanted) (ranges : Option (List Span)) (bytes : List ℕ)
    (old found new : BusState) (chip : Found) (refusal : Refusal)
    → ((new ≡ found) × (refusal ≡ Memory))
    ⊎ FailsToMerge named chip.size ranges (asked_bytes target chip.size bytes) found new refusal → KeepsSent found new
no_target_reads named target ranges bytes old found new chip refusal (inl short) = same_keeps_sent found new short.0
no_target_reads named target ranges bytes old found new chip refusal (inr fails) =
    merge_fails_reads named chip.size ranges _ found new refusal fails

target_fails : (named : Option ChipName) (target : Wanted) (ranges : Option (List Span)) (bytes : List ℕ)
    (old new : BusState) (fault : Fault) → FailsToTarget named target ranges bytes old new (ended.Fault fault)
    → KeepsSent old new
target_fails named target ranges bytes old new fault (inl found) = found.1.always.only_reads.sent
target_fails named target ranges bytes old new fault (inr made) =
    reads_on old made.1.found new made.1.changeable.identified.always.only_reads.sent
    (no_target_reads named target ranges bytes old made.1.found new made.1.chip made.0 made.1.fails)

fill_reads : (named : Option ChipName) (target : Wanted) (ranges : Option (List Span)) (bytes : List ℕ)
    (old new : BusState) (fault : Fault) → FailsToFill named target ranges bytes old new (ended.Fault fault)
    → KeepsSent old new
fill_reads named (wanted.Range start len) ranges bytes old new fault fails = absurd fails
fill_reads named target ranges bytes old new fault fails = target_fails named target ranges bytes old new fault fails

fails_change : (operation : Operation) (change : Change) (ranges : Option (List Span)) (bytes : List ℕ)
    (kept : JournalUse) (view : View) (old new : BusState) (fault : Fault)
    → FailsToChange operation change ranges bytes kept view old new fault → KeepsSent old new
fails_change operation change ranges bytes (uses.Rehearse stops) view old new fault fails =
    same_keeps_sent old new fails.0
fails_change operation change ranges bytes (uses.Journal file) view old new fault (inl fails) =
    fill_reads operation.named change.wanted _ bytes old new fault fails
fails_change operation change ranges bytes (uses.Journal file) view old new fault (inr begun) =
    buffer_reads operation.named change.wanted _ bytes old new begun.0 begun.1

sends_none : (what : What) (kept : JournalUse) (old new : BusState) (after : FilesState) → KeepsSent old new
    → SendsChange what kept old new after
sends_none what (uses.Journal file) old new after reads = inl reads
sends_none what (uses.Rehearse stops) old new after reads = reads

fails_sends : (named : Option ChipName) (job : Task) (bytes : List ℕ) (view : View) (after : FilesState)
    (old new : BusState) (fault : Fault) → FailsBefore named job bytes view old new fault
    → SendsOnly job bytes old new after
fails_sends named (task.Read file regions) bytes view after old new fault (inl found) = found.1.always.only_reads.sent
fails_sends named (task.Read file regions) bytes view after old new fault (inr made) = made.1.always.only_reads.sent
fails_sends named _ bytes view after old new fault fails = absurd fails

comparison_sends : (operation : Operation) (change : Change) (ranges : Option (List Span)) (bytes : List ℕ)
    (kept : JournalUse) (before : View) (after : FilesState) (old new : BusState) (refusal : Refusal)
    → FailsComparison operation change ranges bytes kept before after old new refusal
    → SendsChange (what_of change.wanted) kept old new after
comparison_sends operation change ranges bytes (uses.Journal file) before after old new refusal fails =
    reads_after _ file.now old fails.changed new after
    (fails_reads fails.reported (is_compared operation change) operation.named fails.session.image fails.changed new refusal
    fails.fails)
    (run_sends operation change ranges bytes file.now before after old fails.changed (Ok fails.reported) fails.session)
comparison_sends operation change ranges bytes (uses.Rehearse stops) before after old new refusal fails = absurd fails

task_fails_sends : (operation : Operation) (job : Task) (ranges : Option (List Span)) (bytes : List ℕ) (view : View)
    (after : FilesState) (old new : BusState) (fault : JobFault)
    → FailsPerform operation job ranges bytes view after old new fault → SendsOnly job bytes old new after
task_fails_sends operation (task.Change change) ranges bytes view after old new (ended.Fault fault) fails =
    sends_none _ change.journal_use old new after
    (fails_change operation change ranges bytes change.journal_use view old new fault fails)
task_fails_sends operation (task.Change change) ranges bytes view after old new (ended.Protected byte id) fails =
    sends_none _ change.journal_use old new after fails.protected.identified.always.only_reads.sent
task_fails_sends operation (task.Change change) ranges bytes view after old new (ended.NotCompared refusal) fails =
    comparison_sends operation change ranges bytes change.journal_use view after old new refusal fails
task_fails_sends operation (task.Restore journal) ranges bytes view after old new fault fails =
    job_restore_fails operation bytes old new fault fails
task_fails_sends operation job ranges bytes view after old new (ended.Fault fault) fails =
    fails_sends operation.named job bytes view after old new fault fails
task_fails_sends operation job ranges bytes view after old new _ fails = absurd fails

module _ (operation : Operation) (ranges : Option (List Span)) (bytes : List ℕ) (before : View) (after : FilesState)
    (old new : BusState) where
  pub fails_ends : (fault : JobFault)
      → FailsPerform operation operation.task ranges bytes before after old new fault
      → EndsJob operation ranges bytes before after old new (Err fault)
  fails_ends (ended.Fault (end.Refused refusal)) fails = inr fails
  fails_ends _ fails = fails

  pub does_ends : (outcome : Result Answer Refusal) (result : Result Answer JobFault) → IsEndedAs outcome result
      → DoesTask operation operation.task ranges bytes before after old new outcome
      → EndsJob operation ranges bytes before after old new result
  does_ends (Ok found) result returned does = rw returned does
  does_ends (Err refusal) result returned does = rw returned (inl does)

  pub ends_sends : (result : Result Answer JobFault) → EndsJob operation ranges bytes before after old new result
      → SendsOnly operation.task bytes old new after
  ends_sends (Ok found) ends =
      task_sends operation operation.task ranges bytes before after old new (Ok found) ends
  ends_sends (Err (ended.Fault (end.Refused refusal))) (inl does) =
      task_sends operation operation.task ranges bytes before after old new (Err refusal) does
  ends_sends (Err (ended.Fault (end.Refused refusal))) (inr fails) =
      task_fails_sends operation operation.task ranges bytes before after old new
      (ended.Fault (end.Refused refusal)) fails
  ends_sends (Err fault) fails =
      task_fails_sends operation operation.task ranges bytes before after old new fault fails

pub ends_from : (operation : Operation) (ranges : Option (List Span)) (bytes : List ℕ) (before : View)
    (after : FilesState) (old other new : BusState) (outcome : Result Answer JobFault) → other ≡ old
    → EndsJob operation ranges bytes before after other new outcome
    → EndsJob operation ranges bytes before after old new outcome
ends_from operation ranges bytes before after old other new outcome same ends =
    let P : BusState → Type 0 = λ state. EndsJob operation ranges bytes before after state new outcome in
    subst P same ends
