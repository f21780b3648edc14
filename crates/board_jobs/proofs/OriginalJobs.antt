-- A restore job on a modelled bus, with its reads before and after the call to the engine.
use Rattle.std.proofs.Common.{◌≡◌, ◌∙◌, ℕ, Bool, false, true, List, None, Option, Result, Ok, Err, IfErr, inl, inr}
use Rattle.std.proofs.Common.{refl, subst, sym}
use Rattle.std.specs.Prelude.{IsOk, OnOk}
use Rattle.std.specs.Borrow.{Bor}
use Rattle.std.proofs.lemmas.Bool.{false≢true}
use Rattle.nor_model.specs.Bus.{BusState, KeepsNature}
use Rattle.nor_model.specs.Chip.{Chip, IsSame}
use Rattle.nor_model.proofs.Nature.{nature_refl, nature_then}
use Rattle.nor_driver.proofs.ReadsInTurn.{same_then}
use Rattle.nor_files.specs.Files.{FilesState, View}
use Rattle.nor_journal.specs.Text.{Content as Journal, IsContent, text}
use Rattle.nor_journal.specs.declared.fault.JournalFault.TheVariants.{Short}
use Rattle.nor_journal.proofs.OneForm.{faultless}
use Rattle.nor_layout.specs.declared.ranges.Span.{Span}
use Rattle.nor_probe.specs.Known.{IsModelled}
use Rattle.nor_probe.specs.declared.probes.Found.{Found}
use Rattle.nor_probe.specs.declared.table.ChipName.{ChipName}
use Rattle.nor_request.specs.declared.refusal.Refusal.{Refusal}
use Rattle.nor_request.specs.declared.refusal.Refusal.TheVariants.{BadJournal, Mismatch, OtherChip, OtherName}
use Rattle.nor_request.specs.declared.refusal.Refusal.TheVariants.{StatusLocked, Stopped}
use Rattle.nor_session.specs.Headline.{CanRestore}
use Rattle.nor_args.specs.Text.{Text}
use Rattle.nor_args.specs.declared.job.Operation.{Operation}
use Rattle.nor_args.specs.declared.job.Task.{Task}
use Rattle.nor_args.specs.declared.job.Task.TheVariants as task
use Rattle.nor_console.specs.declared.answers.Answer.{Answer}
use Rattle.nor_console.specs.declared.messages.Fault.{Fault}
use Rattle.nor_console.specs.declared.messages.Fault.TheVariants as end
use Rattle.nor_jobs.specs.Finding.{HasIdentified}
use Rattle.nor_jobs.specs.Restoring.{IsNoJournal}
use Rattle.board_jobs.specs.Fitting.{HasRestoredFitting}
use Rattle.board_jobs.specs.Jobs.{DoesTask, EndsJob, FailsPerform}
use Rattle.board_jobs.specs.Looked.{HasOnlyLooked}
use Rattle.board_jobs.specs.Original.{FailsAtRest, MayFail, MayRefuse, RestoreKeepsOriginal}
use Rattle.board_jobs.specs.Restoring.{FailsBy, FailsRestOf, FailsRestore, HasReadBefore, HasRestored, HasRestoredBy}
use Rattle.board_jobs.specs.UnsavedSectors.{FailsRest, FollowsRestore, is_compared_after}
use Rattle.board_jobs.specs.declared.chip_faults.JobFault.{JobFault}
use Rattle.board_jobs.specs.declared.chip_faults.JobFault.TheVariants as ended
use Rattle.board_jobs.proofs.Original.{FailsNamed, can_restore_after, identified_fails, identified_type, looked_by}
use Rattle.board_jobs.proofs.Original.{looked_none, looked_then, modelled_after, same_after, same_content}
use Rattle.board_jobs.proofs.OriginalRestored.{CallFails, HasKeptFirst, fitting_kept}

rest_looked : (followed : Bool) (journal : Journal) (rest : List ℕ) (old new : BusState)
    → FollowsRestore followed journal rest old new → HasOnlyLooked old new
rest_looked true journal rest old new kept = looked_by kept.read.only_reads
rest_looked false journal rest old new same = looked_none old new same

rest_fails_looked : (journal : Journal) (rest : List ℕ) (old new : BusState) (refusal : Refusal)
    → FailsRest journal rest old new refusal → HasOnlyLooked old new
rest_fails_looked journal rest old new Stopped stopped = looked_by stopped.only_reads
rest_fails_looked journal rest old new (Mismatch address) lost = looked_by lost.read.only_reads
rest_fails_looked journal rest old new _ fails = absurd fails

rest_fails_at : (journal : Journal) (rest : List ℕ) (old new : BusState) (refusal : Refusal)
    → FailsRest journal rest old new refusal → FailsAtRest journal new refusal
rest_fails_at journal rest old new Stopped stopped = stopped.stopped.last
rest_fails_at journal rest old new (Mismatch address) lost = lost.unsaved
rest_fails_at journal rest old new _ fails = absurd fails

module _ (quick : Bool) (named : Option ChipName) (journal : Journal) (first : Chip) (old found restored new : BusState)
    (rest : List ℕ) where
  call_followed : (refusal : Refusal) → FollowsRestore (is_compared_after (Err refusal)) journal rest restored new
      → CallFails quick None journal first found restored refusal → MayRefuse quick named journal first old new refusal
  call_followed Stopped followed fails = rw followed fails
  call_followed OtherName followed fails = absurd (fails.other tt)
  call_followed StatusLocked followed fails = fails
  call_followed _ followed fails = absurd fails

  outcome_followed : (outcome : Result Answer Refusal)
      → FollowsRestore (is_compared_after outcome) journal rest restored new
      → IfErr outcome (CallFails quick None journal first found restored)
      → IfErr outcome (MayRefuse quick named journal first old new)
  outcome_followed (Ok answer) followed fails = tt
  outcome_followed (Err refusal) followed fails = call_followed refusal followed fails

may_refuse : (quick : Bool) (named : Option ChipName) (journal : Journal) (first : Chip) (old new : BusState)
    (refusal : Refusal) → CallFails quick named journal first old new refusal
    → MayRefuse quick named journal first old new refusal
may_refuse quick named journal first old new Stopped fails = fails
may_refuse quick named journal first old new OtherName fails = fails
may_refuse quick named journal first old new StatusLocked fails = fails
may_refuse quick named journal first old new _ fails = absurd fails

named_refuse : (quick : Bool) (named : Option ChipName) (journal : Journal) (first : Chip) (old new : BusState)
    (refusal : Refusal) → FailsNamed named old new refusal → MayRefuse quick named journal first old new refusal
named_refuse quick named journal first old new Stopped fails = fails
named_refuse quick named journal first old new OtherName fails = fails
named_refuse quick named journal first old new _ fails = absurd fails

back_followed : (first : Chip) (restored new : BusState) (outcome : Result Answer Refusal)
    → HasOnlyLooked restored new → restored.honest ≡ true
    → OnOk outcome (IsSame first restored.chip × (restored.chip.busy ≡ 0)) → OnOk outcome (IsSame first new.chip)
back_followed first restored new (Ok answer) looked honest back =
    same_then _ _ _ back.0 (same_after looked honest (inr back.1))
back_followed first restored new (Err refusal) looked honest back = tt

compared_succeeds : (quick : Bool) (journal : Journal) (first : Chip) (old new : BusState)
    (outcome : Result Answer Refusal) → is_compared_after outcome ≡ true
    → IfErr outcome (CallFails quick None journal first old new) → IsOk outcome
compared_succeeds quick journal first old new (Ok answer) is fails = refl
compared_succeeds quick journal first old new (Err (Mismatch address)) is fails = absurd fails
compared_succeeds quick journal first old new (Err _) is fails = absurd (false≢true is)

on_success : {P : Type 0} (outcome : Result Answer Refusal) → IsOk outcome → OnOk outcome P → P
on_success (Ok answer) is holds = holds
on_success (Err refusal) is holds = absurd (false≢true is)

-- Holds after a job's call to the engine: the bus kept its nature, the journal can still restore `first`, after success
-- the chip equals `first`, and an error is one of `MayRefuse`.
record HasEnded (operation : Operation) (journal : Journal) (first : Chip) (old new : BusState)
    (outcome : Result Answer Refusal) : Type 0 where
  nature : KeepsNature old new
  still : CanRestore journal first new
  back : OnOk outcome (IsSame first new.chip)
  fails : IfErr outcome (MayRefuse operation.is_quick operation.named journal first old new)

abbrev HasFailed : Operation → Journal → (first : Chip) → (old new : BusState) → JobFault → Type 0
HasFailed operation journal first old new fault =
    KeepsNature old new × CanRestore journal first new × MayFail operation journal first old new fault

module _ (operation : Operation) (journal : Journal) (first : Chip) (old new : BusState) (modelled : IsModelled old)
    (can : CanRestore journal first old) where
  module _ (rest : List ℕ) (found restored : BusState) (has : HasReadBefore operation.named journal rest old found)
      (outcome : Result Answer Refusal)
      (ran : HasRestoredFitting operation.is_quick None journal found restored outcome) where
    looked : HasOnlyLooked old found
    looked = looked_then (looked_by has.identified.always.only_reads) (looked_by has.read.only_reads)

    kept : HasKeptFirst operation.is_quick None journal first found restored outcome
    kept = fitting_kept operation.is_quick None journal first found restored outcome (modelled_after looked modelled)
        (can_restore_after looked journal first modelled.honest can) ran

    restored_honest : restored.honest ≡ true
    restored_honest = kept.nature.honest ∙ (modelled_after looked modelled).honest

    nature_kept : HasOnlyLooked restored new → KeepsNature old new
    nature_kept later = nature_then old restored new later.only_reads.nature
        (nature_then old found restored kept.nature looked.only_reads.nature)

    compared_ended : FollowsRestore (is_compared_after outcome) journal rest restored new
        → HasEnded operation journal first old new outcome
    compared_ended followed =
        let later = rest_looked (is_compared_after outcome) journal rest restored new followed in
        record {
          nature = nature_kept later;
          still = can_restore_after later journal first restored_honest kept.still;
          back = back_followed first restored new outcome later restored_honest kept.back;
          fails = outcome_followed operation.is_quick operation.named journal first old found restored new rest outcome
              followed kept.fails;
        }

    not_compared : (refusal : Refusal) → is_compared_after outcome ≡ true
        → FailsRest journal rest restored new refusal
        → HasFailed operation journal first old new (ended.RestNotCompared outcome refusal)
    not_compared refusal followed fails =
        let later = rest_fails_looked journal rest restored new refusal fails in
        let succeeded = compared_succeeds operation.is_quick journal first found restored outcome followed
        kept.fails in (
          nature_kept later,
          can_restore_after later journal first restored_honest kept.still,
          record {
            succeeded = succeeded;
            back = on_success outcome succeeded
                (back_followed first restored new outcome later restored_honest kept.back);
            fails = rest_fails_at journal rest restored new refusal fails;
          },
        )

  call_ended : (outcome : Result Answer Refusal)
      → HasKeptFirst operation.is_quick operation.named journal first old new outcome
      → HasEnded operation journal first old new outcome
  call_ended (Ok answer) kept =
      record { nature = kept.nature; still = kept.still; back = kept.back.0; fails = tt }
  call_ended (Err refusal) kept = record {
    nature = kept.nature;
    still = kept.still;
    back = tt;
    fails = may_refuse operation.is_quick operation.named journal first old new refusal kept.fails;
  }

  restored_ended : (compared : Bool) (outcome : Result Answer Refusal)
      → HasRestoredBy compared operation journal old new outcome → HasEnded operation journal first old new outcome
  restored_ended true outcome does =
      compared_ended does.rest does.found does.restored does.first outcome does.ran does.followed
  restored_ended false outcome does = call_ended outcome
      (fitting_kept operation.is_quick operation.named journal first old new outcome modelled can does)

  unread : (refusal : Refusal) (chip : Found) (found : BusState) → HasIdentified operation.named old found (Ok chip)
      → FailsRestOf journal chip found new refusal
      → HasFailed operation journal first old new (ended.Fault (end.Refused refusal))
  unread OtherChip chip found identified fails =
      absurd (fails.1 (identified_type journal first operation.named old found modelled can chip identified))
  unread Stopped chip found identified fails =
      let looked = looked_then (looked_by identified.always.only_reads) (looked_by fails.only_reads) in (
        looked.only_reads.nature,
        can_restore_after looked journal first modelled.honest can,
        fails.stopped.last,
      )
  unread _ chip found identified fails = absurd fails

  by_failed : (compared : Bool) (fault : JobFault) → FailsBy compared operation journal old new fault
      → HasFailed operation journal first old new fault
  by_failed true (ended.Fault fault) (inl short) =
      rw short.1 (rw short.0 (nature_refl old), rw short.0 can, short.0)
  by_failed true (ended.Fault fault) (inr (inl failed)) = rw failed.2 (
    failed.1.always.only_reads.nature,
    can_restore_after (looked_by failed.1.always.only_reads) journal first modelled.honest can,
    named_refuse operation.is_quick operation.named journal first old new failed.0
        (identified_fails journal first operation.named old new modelled can failed.0 failed.1),
  )
  by_failed true (ended.Fault fault) (inr (inr has)) =
      rw has.2 (unread has.0 has.1.chip has.1.found has.1.identified has.1.fails)
  by_failed true (ended.RestNotCompared outcome refusal) has =
      not_compared has.rest has.found has.restored has.first outcome has.ran refusal has.followed has.fails
  by_failed true _ fails = absurd fails
  by_failed false fault fails = absurd fails

  module _ (bytes : List ℕ) (sound : IsContent journal) (read : bytes ≡ text journal) where
    never_unreadable : (error : Fault) → IsNoJournal bytes error → ⊥
    never_unreadable end.NoJournal fault = faultless journal bytes Short sound read fault
    never_unreadable (end.Refused (BadJournal why)) fault = faultless journal bytes why sound read fault
    never_unreadable _ fault = fault

    restore_failed : (fault : JobFault) → FailsRestore operation bytes old new fault
        → HasFailed operation journal first old new fault
    restore_failed fault (inr none) = absurd (never_unreadable none.1.0 none.1.1)
    restore_failed fault (inl has) = by_failed operation.verifies_all fault
        (rw (same_content has.journal journal has.sound sound (sym has.read ∙ read)) at has.fails)

    restore_ended : (outcome : Result Answer Refusal) → HasRestored operation bytes old new outcome
        → HasEnded operation journal first old new outcome
    restore_ended outcome does = restored_ended operation.verifies_all outcome
        (rw (same_content does.journal journal does.sound sound (sym does.read ∙ read)) at does.restored)

    done : (answer : Answer) → HasRestored operation bytes old new (Ok answer)
        → RestoreKeepsOriginal operation journal first old new (Ok answer)
    done answer does = let ended' = restore_ended (Ok answer) does in
        record { nature = ended'.nature; still = ended'.still; back = ended'.back; fails = tt }

    refused : (refusal : Refusal) → HasRestored operation bytes old new (Err refusal)
        → RestoreKeepsOriginal operation journal first old new (Err (ended.Fault (end.Refused refusal)))
    refused refusal does = let ended' = restore_ended (Err refusal) does in
        record { nature = ended'.nature; still = ended'.still; back = tt; fails = ended'.fails }

    failed : (fault : JobFault) → FailsRestore operation bytes old new fault
        → RestoreKeepsOriginal operation journal first old new (Err fault)
    failed fault fails = let kept = restore_failed fault fails in
        record { nature = kept.0; still = kept.1; back = tt; fails = kept.2 }

    module _ (ranges : Option (List Span)) (before : View) (after : FilesState) (file : Bor Text)
        (is : operation.task ≡ task.Restore file) where
      does_restore : (outcome : Result Answer Refusal)
          → DoesTask operation operation.task ranges bytes before after old new outcome
          → HasRestored operation bytes old new outcome
      does_restore outcome does =
          subst (λ (job : Task). DoesTask operation job ranges bytes before after old new outcome) is does

      fails_restore : (fault : JobFault)
          → FailsPerform operation operation.task ranges bytes before after old new fault
          → FailsRestore operation bytes old new fault
      fails_restore fault fails =
          subst (λ (job : Task). FailsPerform operation job ranges bytes before after old new fault) is fails

      pub restores_first : (result : Result Answer JobFault)
          → EndsJob operation ranges bytes before after old new result
          → RestoreKeepsOriginal operation journal first old new result
      restores_first (Ok answer) ends = done answer (does_restore (Ok answer) ends)
      restores_first (Err (ended.Fault (end.Refused refusal))) (inl does) =
          refused refusal (does_restore (Err refusal) does)
      restores_first (Err (ended.Fault (end.Refused refusal))) (inr fails) =
          failed (ended.Fault (end.Refused refusal)) (fails_restore (ended.Fault (end.Refused refusal)) fails)
      restores_first (Err fault) ends = failed fault (fails_restore fault ends)
