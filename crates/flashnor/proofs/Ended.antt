-- Lemmas about how a run ends. They follow from how its call to the engine and its job end.
use Rattle.std.proofs.Common.{◌≡◌, ℕ, Bool, List, Option, Result, Ok, Err, IfOk, arith, false, inl, inr, refl, true}
use Rattle.nor_request.specs.declared.refusal.Refusal.{Refusal}
use Rattle.nor_request.specs.declared.refusal.Refusal.TheVariants.{Memory}
use Rattle.nor_args.specs.Text.{Text}
use Rattle.nor_args.specs.Words.{IsJob}
use Rattle.nor_args.specs.declared.job.ChipJob.{ChipJob}
use Rattle.nor_args.specs.declared.job.Job.TheVariants as job
use Rattle.nor_args.specs.declared.reasons.Reason.TheVariants as because
use Rattle.nor_args.specs.declared.words.UsageFault.TheVariants as usage
use Rattle.flashnor.specs.Chips.{FailsToHold, FailsToOpen}
use Rattle.flashnor.specs.Endings.{HasPrinted, all_written}
use Rattle.nor_console.specs.Files.{IsLockingFault, IsOpeningFault}
use Rattle.nor_files.specs.Files.{AreAtRest, FilesState, Nature, View}
use Rattle.nor_args.specs.declared.programmer.Programmer.{Programmer}
use Rattle.flashnor.specs.Run.{EndsChipJob, FailsJob, FailsToStart, AnswersArguments, HoldsResult, HoldsTask, IsCalled}
use Rattle.flashnor.specs.Run.{IsPrintedAt, IsStatus, KeepsFiles}
use Rattle.nor_console.specs.Messages.{IsReportedAs}
use Rattle.nor_console.specs.declared.answers.Answer.{Answer}
use Rattle.flashnor.specs.declared.details.Detail.{Detail}
use Rattle.flashnor.specs.declared.details.Detail.TheVariants.{Unsaid}
use Rattle.flashnor.specs.declared.holding.Unwritten.{Unwritten}
use Rattle.nor_console.specs.declared.messages.Fault.{Fault}
use Rattle.nor_console.specs.declared.messages.Fault.TheVariants as end
use Rattle.nor_console.specs.declared.messages.Wording.{Wording}
use Rattle.flashnor.specs.declared.printing.Ending.{Ending}
use Rattle.flashnor.specs.declared.run.Work.{Work}
use Rattle.flashnor.specs.Streams.{IsReportedTo}
use Rattle.flashnor.specs.Tasks.{writes_back}
use Rattle.flashnor.proofs.NoUsage.{no_usage}
use Rattle.flashnor.specs.declared.streams.Reports.{Reports}
use Rattle.flashnor.specs.declared.streams.Reports.TheVariants as at

starts_memory : (puts : Bool) (view : View) (programmer : Programmer) (fault : Fault) → fault ≡ end.Refused Memory
    → FailsToStart puts view programmer fault
starts_memory true view programmer fault is = inl is
starts_memory false view programmer fault is = inl is

opening_locks : (view : View) (name : Text) (len : ℕ) (fault : Fault) → IsOpeningFault view name len fault
    → IsLockingFault view name len fault
opening_locks view name len fault is = grind arith

opens_holds : (view : View) (programmer : Programmer) (fault : Fault) → FailsToOpen view programmer fault
    → FailsToHold view programmer fault
opens_holds view programmer fault fails = grind (arith, opening_locks)

starts_open : (puts : Bool) (view : View) (programmer : Programmer) (fault : Fault)
    → FailsToOpen view programmer fault → FailsToStart puts view programmer fault
starts_open true view programmer fault fails = opens_holds view programmer fault fails
starts_open false view programmer fault fails = fails

pub opens_starts : (view : View) (on_chip : ChipJob) (fault : Fault) → FailsToOpen view on_chip.programmer fault
    → FailsToStart (writes_back on_chip.task) view on_chip.programmer fault
opens_starts view on_chip fault fails = starts_open (writes_back on_chip.task) view on_chip.programmer fault fails

pub fails_memory : (view : View) (on_chip : ChipJob) (fault : Fault) → fault ≡ end.Refused Memory
    → FailsJob view on_chip fault
fails_memory view on_chip fault is =
    inr (inl (starts_memory (writes_back on_chip.task) view on_chip.programmer fault is))

module _ (files after : FilesState) (on_chip : ChipJob) (unwritten : Unwritten) where
  pub ends_called : (outcome : Result Answer Refusal) (returned : Result Answer Fault)
      → IsCalled files after on_chip unwritten outcome → IsReportedAs outcome returned
      → EndsChipJob files after on_chip unwritten returned
  ends_called outcome returned called reported = grind arith

  fails_ends : (fault : Fault) → FailsJob files.view on_chip fault → EndsChipJob files after on_chip unwritten (Err fault)
  fails_ends (end.Refused refusal) fails = inr fails
  fails_ends (end.Usage fault reason) fails = fails
  fails_ends end.NoText fails = fails
  fails_ends (end.Layout fault) fails = fails
  fails_ends (end.Map fault) fails = fails
  fails_ends (end.NoRegion name) fails = fails
  fails_ends (end.File fault name cause) fails = fails
  fails_ends end.NoJournal fails = fails

  pub failed_ends : (fault : Fault) (returned : Result Answer Fault) → returned ≡ Err fault
      → FailsJob files.view on_chip fault → EndsChipJob files after on_chip unwritten returned
  failed_ends fault returned is fails = rw is (fails_ends fault fails)

  pub failed_holds : (fault : Fault) (returned : Result Answer Fault) → returned ≡ Err fault
      → HoldsResult on_chip unwritten returned files after
  failed_holds fault returned is = rw is tt

  pub answer_ended : (words : List Text) (returned : Result Answer Fault) → IsJob words (job.Chip on_chip)
      → (AreAtRest files → KeepsFiles on_chip.programmer on_chip.task files after)
      → (AreAtRest files → HoldsResult on_chip unwritten returned files after)
      → EndsChipJob files after on_chip unwritten returned → AnswersArguments files after words returned unwritten
  answer_ended words (Err (end.Usage fault reason)) asks keeps holds ends =
      absurd (no_usage fault reason on_chip files.view words asks ends)
  answer_ended words _ asks keeps holds ends = grind arith

  pub answer_failed : (words : List Text) (fault : Fault) → IsJob words (job.Chip on_chip)
      → (AreAtRest files → KeepsFiles on_chip.programmer on_chip.task files after) → FailsJob files.view on_chip fault
      → AnswersArguments files after words (Err fault) unwritten
  answer_failed words fault asks keeps fails =
      answer_ended words (Err fault) asks keeps (λ rest. tt) (fails_ends fault fails)

pub printed_at : (nature : Nature) (returned : Result Answer Fault) → IsPrintedAt nature returned at.Errors
printed_at nature (Ok found) = refl
printed_at nature (Err fault) = tt

pub printed_there : (nature : Nature) (fault : Fault) (to : Reports) (returned : Result Answer Fault)
    → returned ≡ Err fault → IsReportedTo nature fault to → IsPrintedAt nature returned to
printed_there nature fault to returned is reported = rw is reported

pub holds_reported : (on_chip : ChipJob) (unwritten : Unwritten) (outcome : Result Answer Refusal)
    (returned : Result Answer Fault) (old new : FilesState) → IsReportedAs outcome returned
    → ((found : Answer) → outcome ≡ Ok found → unwritten ≡ all_written
    → HoldsTask on_chip.programmer on_chip.named on_chip.task found old new)
    → HoldsResult on_chip unwritten returned old new
holds_reported on_chip unwritten outcome returned old new reported holds = grind arith

pub holds_readonly : (on_chip : ChipJob) (result : Result Work Fault) (old new : FilesState)
    → writes_back on_chip.task ≡ false
    → IfOk result (λ work. HoldsResult on_chip work.unwritten work.answer old new)
holds_readonly on_chip result old new not_written_back = grind arith

module _ (files after : FilesState) (words : List Text) (wording : Wording) (detail : Detail) where
  module _ (outcome : Result Answer Fault) (unwritten : Unwritten) (to : Reports) (out out' err err' : Option (List ℕ))
      (ending : Ending) (answers : AnswersArguments files after words outcome unwritten)
      (printed_at : IsPrintedAt files.view.nature outcome to)
      (prints : HasPrinted wording detail outcome unwritten to out out' err err' ending) where
    pub is_status : IsStatus files after words wording out out' err err' ending
    is_status = grind arith

pub is_without_memory : (files : FilesState) (words : List Text) (wording : Wording)
    (out out' err err' : Option (List ℕ)) (ending : Ending)
    → HasPrinted wording Unsaid (Err (end.Usage usage.Memory because.Unsaid)) all_written at.Errors
    out out' err err' ending
    → IsStatus files files words wording out out' err err' ending
is_without_memory files words wording out out' err err' ending prints = grind arith
