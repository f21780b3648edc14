-- A change on a modelled bus: the chip is untouched or the journal in the file can restore it, and what success means.
use Rattle.std.proofs.Common.{◌≡◌, ◌<◌, ◌∙◌, ◌⊎◌, ℕ, Bool, List, None, Some, Option, Result, Ok, Err, IfOk, ap, arith}
use Rattle.std.proofs.Common.{false, inl, inr, length, refl, slice_index, subst, sym, true}
use Rattle.std.specs.Prelude.{◌&&◌, nat_lt, OnOk, if◌then◌else◌}
use Rattle.std.specs.Borrow.{Bor}
use Rattle.std.proofs.lemmas.Bool.{cases_lt}
use Rattle.std.proofs.lemmas.List.{get_or_past}
use Rattle.nor_model.specs.Bus.{BusState, KeepsNature}
use Rattle.nor_model.specs.Chip.{Chip, IsSame}
use Rattle.nor_model.proofs.Nature.{nature_then}
use Rattle.nor_driver.specs.OnlyReads.{IsSteadyOrIdle}
use Rattle.nor_driver.specs.StatusWrites.{fixed_of, with_code}
use Rattle.nor_files.specs.Files.{FilesState, View, is_lawful}
use Rattle.nor_layout.specs.Ranges.{contains}
use Rattle.nor_layout.specs.declared.ranges.Span.{Span}
use Rattle.nor_probe.specs.Known.{IsModelled}
use Rattle.nor_probe.specs.declared.table.ChipName.{ChipName}
use Rattle.nor_request.specs.Request.{IsWantedCode, wanted as wanted_byte}
use Rattle.nor_request.specs.declared.refusal.Refusal.{Refusal}
use Rattle.nor_request.specs.declared.report.Report.{Report}
use Rattle.nor_request.specs.declared.request.Request.{Request}
use Rattle.nor_request.specs.declared.request.What.{What}
use Rattle.nor_request.specs.declared.request.What.TheVariants as what
use Rattle.nor_session.specs.Session.{IsDone}
use Rattle.nor_args.specs.Text.{Text}
use Rattle.nor_args.specs.declared.job.Change.{Change}
use Rattle.nor_args.specs.declared.job.JournalUse.{JournalUse}
use Rattle.nor_args.specs.declared.job.JournalUse.TheVariants as uses
use Rattle.nor_args.specs.declared.job.Operation.{Operation}
use Rattle.nor_args.specs.declared.job.Task.{Task}
use Rattle.nor_args.specs.declared.job.Task.TheVariants as task
use Rattle.nor_args.specs.declared.job.Wanted.{Wanted}
use Rattle.nor_args.specs.declared.job.Wanted.TheVariants as wanted
use Rattle.nor_console.specs.Readings.{AnswersCall}
use Rattle.nor_console.specs.Requests.{request_for, what_of}
use Rattle.nor_console.specs.Sessions.{HasRunInFile, ReportsDone}
use Rattle.nor_console.specs.declared.answers.Answer.{Answer}
use Rattle.nor_console.specs.declared.messages.Fault.TheVariants as end
use Rattle.board_files.specs.Tasks.{is_compared}
use Rattle.board_jobs.specs.Following.{ranges_if}
use Rattle.board_jobs.specs.Jobs.{DoesTask, EndsJob, FailsChange, FailsPerform, HasChangedAndCompared, HasChangedBy}
use Rattle.board_jobs.specs.Jobs.{HasRunChange, IsBufferOf, ranges_of}
use Rattle.board_jobs.specs.Looked.{HasOnlyLooked}
use Rattle.board_jobs.specs.Original.{ChangeKeepsOriginal, IsChangedAsAsked, CanRestoreFromFile, IsUntouched}
use Rattle.board_jobs.specs.declared.chip_faults.JobFault.{JobFault}
use Rattle.board_jobs.specs.declared.chip_faults.JobFault.TheVariants as ended
use Rattle.board_jobs.proofs.Original.{can_restore_after, looked_by, looked_then, modelled_after, same_after}
use Rattle.board_jobs.proofs.OriginalLooked.{buffer_looked, can_restore_same, change_fails_looked}
use Rattle.board_jobs.proofs.OriginalLooked.{follow_fails_looked, follow_looked}

included_byte : (spans : List Span) (bytes chip image : List ℕ) (a : ℕ) → length bytes ≡ length chip
    → length image ≡ length chip
    → ((k : ℕ) → k < length chip
    → slice_index image k ≡ (if contains spans k then slice_index bytes k else slice_index chip k))
    → contains spans a ≡ true → slice_index image a ≡ slice_index bytes a
included_byte spans bytes chip image a long other merged is = elim (cases_lt a (length chip)) [
  | inl below ↦ rw is at (merged a below)
  | inr past ↦ get_or_past image a 0 (omega (arith, other, past))
      ∙ sym (get_or_past bytes a 0 (omega (arith, long, past)))
]

merged_bytes : (size : ℕ) (spans : List Span) (bytes chip image : List ℕ) (content : ℕ → ℕ) (a : ℕ)
    → length bytes ≡ length chip → length image ≡ length chip
    → ((k : ℕ) → k < length chip
    → slice_index image k ≡ (if contains spans k then slice_index bytes k else slice_index chip k))
    → (if nat_lt a size && contains spans a then slice_index image a else content a)
    ≡ (if nat_lt a size && contains spans a then slice_index bytes a else content a)
merged_bytes size spans bytes chip image content a long other merged =
    let inside = included_byte spans bytes chip image a long other merged in grind (arith, inside)

-- The session's buffer asks for the same target bytes as the image of the job.
same_target : (target : Wanted) (compared : Bool) (named : Option ChipName) (ranges : Option (List Span))
    (bytes : List ℕ) (old found : BusState) (image : List ℕ) (unlock verify : Bool) (chip : Chip) (a : ℕ)
    → IsBufferOf named target (ranges_if compared ranges) bytes old found image
    → wanted_byte (record {
      what = what_of target;
      named = named;
      included = ranges;
      unlock = unlock;
      verify = verify;
    }) image chip a
    ≡ wanted_byte (record {
      what = what_of target;
      named = named;
      included = ranges;
      unlock = unlock;
      verify = verify;
    }) bytes chip a
same_target (wanted.Range start len) compared named ranges bytes old found image unlock verify chip a is = refl
same_target wanted.Erase compared named ranges bytes old found image unlock verify chip a is = refl
same_target (wanted.Write file) false named ranges bytes old found image unlock verify chip a is = rw is.is.1 refl
same_target (wanted.Write file) true named None bytes old found image unlock verify chip a is = rw is.is.1 refl
same_target (wanted.Write file) true named (Some spans) bytes old found image unlock verify chip a is =
    merged_bytes chip.config.size spans bytes is.is.chip image chip.bytes a is.is.whole is.is.long is.is.bytes

module _ (old found changed new : BusState) (modelled : IsModelled old) (settled : IsSteadyOrIdle old)
    (before : HasOnlyLooked old found) (later : HasOnlyLooked changed new) where
  found_same : IsSame old.chip found.chip
  found_same = same_after before modelled.honest settled

  module _ (request : Request) (image : List ℕ) (file : Text) (view : View) (after : FilesState)
      (lawful : is_lawful after.view ≡ true) (outcome : Result Answer Refusal)
      (ran : HasRunInFile request image file view after found changed outcome) where
    there : IsModelled found
    there = modelled_after before modelled

    changed_honest : changed.honest ≡ true
    changed_honest = ran.ran.always.spends.nature.honest ∙ there.honest

    by_seal : (sealed : Bool) → ran.vault'.sealed ≡ sealed
        → IsUntouched old new ⊎ CanRestoreFromFile file old.chip new after
    by_seal false is =
        let all = looked_then before (looked_then (looked_by (ran.ran.always.only_reads is)) later) in
        inl (record { looked = all; same = same_after all modelled.honest settled; unsent = all.only_reads.sent })
    by_seal true is =
        let kept = ran.kept_in lawful in
        let can = ran.ran.keeps.restorable is kept.telling there in
        inr (record {
          bytes = ran.vault'.bytes;
          durable = kept.durable is;
          back = record {
            journal = can.journal;
            back = can_restore_same found.chip old.chip found_same can.journal.content new
                (can_restore_after later can.journal.content found.chip changed_honest can.back);
          };
        })

    pub run_restorable : IsUntouched old new ⊎ CanRestoreFromFile file old.chip new after
    run_restorable = by_seal ran.vault'.sealed refl

  module _ (operation : Operation) (change : Change) (ranges : Option (List Span)) (bytes image : List ℕ)
      (honest : changed.honest ≡ true)
      (buffer : IsBufferOf operation.named change.wanted (ranges_of operation change ranges) bytes old found image)
    where
      abbrev request : Request
      request = request_for change operation.named ranges

      target_byte : (a : ℕ) → wanted_byte request image found.chip a ≡ wanted_byte request bytes old.chip a
      target_byte a = rw (found_same.config, found_same.bytes a)
          (same_target change.wanted (is_compared operation change) operation.named ranges bytes old found image
          change.unlock change.verify old.chip a buffer)

      wanted_code : (w : What) (code : ℕ) → IsWantedCode w found.chip code → IsWantedCode w old.chip code
      wanted_code (what.WpRange start len) code is = rw (found_same.config) at is
      wanted_code what.Write code is = rw (found_same.kept) at is
      wanted_code what.Erase code is = rw (found_same.kept) at is

      changed_by : (report : Report) → IsDone request image found changed report
          → IsChangedAsAsked operation change ranges bytes old.chip new.chip
      changed_by report is =
          let idle = inr is.made.idle in
          let same = same_after later honest idle in
          let less = (later.only_reads.honest_reads honest).stays.busy in
          record {
            made = record {
              config = same.config ∙ is.made.config ∙ found_same.config;
              bytes = λ a. same.bytes a ∙ is.made.bytes a ∙ target_byte a;
              fixed = ap fixed_of same.kept ∙ is.made.fixed ∙ ap fixed_of found_same.kept;
              idle = let none = is.made.idle in omega (arith, less, none);
              latch = λ on. (before.only_reads.honest_reads modelled.honest).latch
                  (is.made.latch ((later.only_reads.honest_reads honest).latch on));
            };
            code = is.code;
            is_wanted = wanted_code (what_of change.wanted) is.code is.is_wanted;
            kept = same.kept ∙ is.kept ∙ ap (with_code is.code) found_same.kept;
          }

      pub changed_if : (result : Result Report Refusal) (outcome : Result Answer Refusal)
          → AnswersCall ReportsDone result outcome → IfOk result (IsDone request image found changed)
          → OnOk outcome (IsChangedAsAsked operation change ranges bytes old.chip new.chip)
      changed_if (Ok report) (Ok answer) returned done = changed_by report done
      changed_if (Err refusal) (Ok answer) returned done = absurd returned
      changed_if result (Err refusal) returned done = tt

module _ (operation : Operation) (change : Change) (ranges : Option (List Span)) (bytes : List ℕ) (file : Bor Text)
    (view : View) (after : FilesState) (old new : BusState) (modelled : IsModelled old) (settled : IsSteadyOrIdle old)
    (lawful : is_lawful after.view ≡ true) where
  abbrev Restorable : Type 0
  Restorable = IsUntouched old new ⊎ CanRestoreFromFile file.now old.chip new after

  untouched : HasOnlyLooked old new → Restorable
  untouched looked = inl (record {
    looked = looked;
    same = same_after looked modelled.honest settled;
    unsent = looked.only_reads.sent;
  })

  module _ (changed : BusState) (outcome : Result Answer Refusal)
      (ran : HasRunChange operation change ranges bytes file.now view after old changed outcome)
      (later : HasOnlyLooked changed new) where
    before_run : HasOnlyLooked old ran.found
    before_run = buffer_looked operation.named change.wanted (ranges_of operation change ranges) bytes old ran.found
        ran.image ran.buffer

    session_nature : KeepsNature old new
    session_nature = nature_then old changed new later.only_reads.nature
        (nature_then old ran.found changed ran.ran.ran.always.spends.nature before_run.only_reads.nature)

    session_restorable : Restorable
    session_restorable = run_restorable old ran.found changed new modelled settled before_run later
        (request_for change operation.named ranges) ran.image file.now view after lawful outcome ran.ran

    session_changed : OnOk outcome (IsChangedAsAsked operation change ranges bytes old.chip new.chip)
    session_changed = changed_if old ran.found changed new modelled settled before_run later operation change ranges
        bytes ran.image (ran.ran.ran.always.spends.nature.honest ∙ (modelled_after before_run modelled).honest)
        ran.buffer ran.ran.ran.result outcome ran.ran.ran.returned
        (ran.ran.ran.modelled (modelled_after before_run modelled)).done

  done_restorable : (outcome : Result Answer Refusal)
      → HasChangedAndCompared operation change ranges bytes file.now view after old new outcome
      → KeepsNature old new × Restorable
      × OnOk outcome (IsChangedAsAsked operation change ranges bytes old.chip new.chip)
  done_restorable outcome does =
      let later = follow_looked outcome (is_compared operation change) operation.named does.session.image
      does.changed new does.followed in (
        session_nature does.changed outcome does.session later,
        session_restorable does.changed outcome does.session later,
        session_changed does.changed outcome does.session later,
      )

  done_changes : (answer : Answer)
      → HasChangedBy operation change ranges bytes (uses.Journal file) view after old new (Ok answer)
      → ChangeKeepsOriginal operation change ranges bytes file.now after old new (Ok answer)
  done_changes answer does = let all = done_restorable (Ok answer) does in
      record { nature = all.0; restorable = all.1; asked = all.2 }

  refused_changes : (refusal : Refusal)
      → HasChangedBy operation change ranges bytes (uses.Journal file) view after old new (Err refusal)
      → ChangeKeepsOriginal operation change ranges bytes file.now after old new
      (Err (ended.Fault (end.Refused refusal)))
  refused_changes refusal does = let all = done_restorable (Err refusal) does in
      record { nature = all.0; restorable = all.1; asked = tt }

  failed_changes : (fault : JobFault)
      → FailsChange operation change ranges bytes (uses.Journal file) view after old new fault
      → ChangeKeepsOriginal operation change ranges bytes file.now after old new (Err fault)
  failed_changes (ended.Fault fault) fails =
      let looked = change_fails_looked operation change ranges bytes (uses.Journal file) view old new fault fails in
      record { nature = looked.only_reads.nature; restorable = untouched looked; asked = tt }
  failed_changes (ended.Protected byte id) fails =
      let looked = looked_by fails.protected.identified.always.only_reads in
      record { nature = looked.only_reads.nature; restorable = untouched looked; asked = tt }
  failed_changes (ended.NotCompared refusal) fails =
      let later = follow_fails_looked fails.reported (is_compared operation change) operation.named fails.session.image
      fails.changed new refusal fails.fails in
      record {
        nature = session_nature fails.changed (Ok fails.reported) fails.session later;
        restorable = session_restorable fails.changed (Ok fails.reported) fails.session later;
        asked = session_changed fails.changed (Ok fails.reported) fails.session later;
      }
  failed_changes _ fails = absurd fails

  module _ (is : operation.task ≡ task.Change change) (kept : change.journal_use ≡ uses.Journal file) where
    does_change : (outcome : Result Answer Refusal)
        → DoesTask operation operation.task ranges bytes view after old new outcome
        → HasChangedBy operation change ranges bytes (uses.Journal file) view after old new outcome
    does_change outcome does =
        subst (λ (given : JournalUse). HasChangedBy operation change ranges bytes given view after old new outcome) kept
        (subst (λ (job : Task). DoesTask operation job ranges bytes view after old new outcome) is does)

    fails_change : (fault : JobFault) → FailsPerform operation operation.task ranges bytes view after old new fault
        → FailsChange operation change ranges bytes (uses.Journal file) view after old new fault
    fails_change fault fails =
        subst (λ (given : JournalUse). FailsChange operation change ranges bytes given view after old new fault) kept
        (subst (λ (job : Task). FailsPerform operation job ranges bytes view after old new fault) is fails)

    pub changes_restorably : (result : Result Answer JobFault)
        → EndsJob operation ranges bytes view after old new result
        → ChangeKeepsOriginal operation change ranges bytes file.now after old new result
    changes_restorably (Ok answer) ends = done_changes answer (does_change (Ok answer) ends)
    changes_restorably (Err (ended.Fault (end.Refused refusal))) (inl does) =
        refused_changes refusal (does_change (Err refusal) does)
    changes_restorably (Err (ended.Fault (end.Refused refusal))) (inr fails) =
        failed_changes (ended.Fault (end.Refused refusal)) (fails_change (ended.Fault (end.Refused refusal)) fails)
    changes_restorably (Err fault) ends = failed_changes fault (fails_change fault ends)
