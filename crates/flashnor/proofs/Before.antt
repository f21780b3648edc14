-- The files after a run that ends before its call to the engine, or whose task does not change the chip.
use Rattle.std.proofs.Common.{◌≡◌, Option, Some, arith, false, true}
use Rattle.std.specs.Borrow.{Bor}
use Rattle.nor_files.specs.Calls.{LeaveNoMore, LeavesNoMore, LeavesOrEmpty}
use Rattle.nor_files.specs.Files.{AreAtRest, FilesState, KnownStay, Name, Nature, KeepsFile}
use Rattle.nor_args.specs.Text.{Text}
use Rattle.nor_args.specs.declared.job.ChipJob.{ChipJob}
use Rattle.nor_args.specs.declared.job.Task.{Task}
use Rattle.nor_args.specs.declared.job.Task.TheVariants as task
use Rattle.nor_args.specs.declared.programmer.Programmer.{Programmer}
use Rattle.flashnor.specs.Roles.{HasOwnTrace, FilesHaveOneRole}
use Rattle.nor_console.specs.Tasks.{named_by, made_by}
use Rattle.flashnor.specs.Run.{KeepsFiles, StayBut}
use Rattle.nor_console.specs.Stored.{AreTwo, IsNot, LeavesNoMoreOf, MakesNothing}
use Rattle.flashnor.specs.Tasks.{journal_by, writes_back}
use Rattle.flashnor.proofs.Stays.{StayApart}

pub two_kept : (nature : Nature) (done : Task) (one : Option (Bor Text)) → AreTwo nature one (named_by done).journal
    → AreTwo nature one (journal_by done)
two_kept nature done one two = grind arith

pub roles_after : {old new : Nature} (job : ChipJob) → new ≡ old → FilesHaveOneRole old job → FilesHaveOneRole new job
roles_after job same roles = grind arith

module _ (nature : Nature) (job : ChipJob) (roles : FilesHaveOneRole nature job) where
  pub image_made : AreTwo nature job.programmer.image (made_by job.task)
  image_made = grind arith

  pub status_made : AreTwo nature job.programmer.status (made_by job.task)
  status_made = grind arith

pub stays_but : (job : ChipJob) (old new : FilesState) → FilesHaveOneRole old.view.nature job
    → StayApart job.programmer.trace (made_by job.task) old new → StayBut job.programmer (made_by job.task) old new
stays_but job old new roles stay = grind arith

module _ (programmer : Programmer) (old new : FilesState) (image : LeavesNoMoreOf programmer.image old new)
    (status : LeavesNoMoreOf programmer.status old new) where
  keeps_unmade : (done : Task) → (writes_back done ≡ false → StayBut programmer (made_by done) old new)
      → ((any : Name) → IsNot old.view.nature programmer.trace any → IsNot old.view.nature (made_by done) any
      → LeavesNoMore any old new)
      → ((journal : Bor Text) → done ≡ task.Restore journal → LeavesNoMore journal.now old new)
      → ((file : Bor Text) → journal_by done ≡ Some file → LeavesOrEmpty file.now old new)
      → KeepsFiles programmer done old new
  keeps_unmade done stay_but leave source empty = grind arith

pub keeps_still : (files : FilesState) (programmer : Programmer) (done : Task) → KeepsFiles programmer done files files
keeps_still files programmer done = grind arith

pub keeps_existing : (job : ChipJob) (old new : FilesState) (file : Bor Text) → journal_by job.task ≡ Some file
    → HasOwnTrace old.view.nature job
    → ((any : Name) → IsNot old.view.nature job.programmer.trace any → KeepsFile any old new)
    → KeepsFiles job.programmer job.task old new
keeps_existing job old new file is own stay = grind arith

module _ (old mid new : FilesState) (rest : AreAtRest old) (nature : mid.view.nature ≡ old.view.nature)
    (known : KnownStay old mid) (first : LeaveNoMore old mid) where
  or_empty : (named : Option (Bor Text)) (file : Bor Text) → named ≡ Some file → MakesNothing named mid new
      → LeavesOrEmpty file.now old new
  or_empty named file is makes left can = grind arith

  pub keeps_before : (job : ChipJob) → FilesHaveOneRole old.view.nature job → writes_back job.task ≡ true
      → StayApart job.programmer.trace (made_by job.task) mid new → MakesNothing (journal_by job.task) mid new
      → KeepsFiles job.programmer job.task old new
  keeps_before job roles puts stay makes =
      let was = old.view.nature in
      let leave : (any : Name) → IsNot old.view.nature job.programmer.trace any
      → IsNot old.view.nature (made_by job.task) any → LeavesNoMore any old new = grind arith in
      keeps_unmade job.programmer old new (grind arith) (grind arith) job.task (grind arith) leave (grind arith)
      (λ file is. or_empty (journal_by job.task) file is makes)
