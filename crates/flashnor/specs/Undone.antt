-- Runs that follow one another, from an interrupted change to the restore that succeeds.
use Rattle.std.specs.Prelude.{◌≡◌, ⊤, Option, None, Some, Result}
use Rattle.std.specs.Borrow.{Bor}
use Rattle.nor_model.specs.Chip.{IsSame}
use Rattle.nor_files.specs.Calls.{LeavesNoMore}
use Rattle.nor_files.specs.Files.{AreAtRest, FilesState, Found}
use Rattle.nor_args.specs.Text.{Text}
use Rattle.nor_args.specs.declared.job.ChipJob.{ChipJob}
use Rattle.nor_args.specs.declared.job.Job.TheVariants as job
use Rattle.nor_args.specs.declared.job.Task.{Task}
use Rattle.nor_args.specs.declared.job.Task.TheVariants as task
use Rattle.nor_args.specs.declared.programmer.Programmer.{Programmer}
use Rattle.flashnor.specs.Left.{IsRestorableFrom, LeavesOnly, MayFind, Opened}
use Rattle.flashnor.specs.Run.{AnswersJob}
use Rattle.nor_console.specs.declared.answers.Answer.{Answer}
use Rattle.flashnor.specs.declared.holding.Unwritten.{Unwritten}
use Rattle.nor_console.specs.declared.messages.Fault.{Fault}

-- Holds if a run may find the files `new` at rest after an earlier run left `old`, even if the earlier run was killed
-- or the host crashed. You may have moved aside a file of the chip that was missing at first.
pub record Follows {programmer : Programmer} {start : FilesState} (file : Text) (first : Opened programmer start)
    (old new : FilesState) : Type 0 where
  pub rest : AreAtRest new
  pub journal : LeavesNoMore file old new
  pub image : (found : Found) → MayFind programmer.image first.read.bytes.found found new
      → MayFind programmer.image first.read.bytes.found found old
  pub status : (found : Found) → MayFind programmer.status first.read.status.found found new
      → MayFind programmer.status first.read.status.found found old

abbrev pub NameOne : (one other : Option (Bor Text)) → Type 0
NameOne None None = ⊤
NameOne (Some one) (Some other) = other.now ≡ one.now
NameOne _ _ = ⊥

pub record HaveOneChip (one other : Programmer) : Type 0 where
  pub chip : other.chip ≡ one.chip
  pub unique : other.unique ≡ one.unique
  pub image : NameOne one.image other.image
  pub status : NameOne one.status other.status

abbrev pub Restores : Text → Task → Type 0
Restores file (task.Restore journal) = journal.now ≡ file
Restores file _ = ⊥

-- Holds if a run of `--restore` on the same chip, with the journal in `file`, found the files `mid` (an earlier run
-- left `old`) and left the files `new`, and if this journal can restore the original chip from `old`.
pub record RestoresFrom {programmer : Programmer} {start : FilesState} (file : Text)
    (first : Opened programmer start) (on_chip : ChipJob) (unwritten : Unwritten) (returned : Result Answer Fault)
    (old mid new : FilesState) : Type 0 where
  pub restorable : IsRestorableFrom file first old
  pub follows : Follows file first old mid
  pub same : HaveOneChip programmer on_chip.programmer
  pub restores : Restores file on_chip.task
  pub answers : AnswersJob mid new (job.Chip on_chip) unwritten returned

-- Holds if each chip that a later run may open is the original chip, even if the host crashes before that run.
abbrev pub LeavesOriginal : {programmer : Programmer} {start : FilesState} → Opened programmer start → FilesState
    → Type 0
LeavesOriginal first files = LeavesOnly first (λ opened. IsSame first.bus.chip opened.chip) files
