-- The roles of a job's files, and which roles need different files.
use Rattle.std.specs.Prelude.{◌≡◌, ◌⊎◌, ◌&&◌, ◌||◌, ℕ, Bool, true, false, Option, IsSomeAnd, is_some, nat_lt}
use Rattle.std.specs.Borrow.{Bor}
use Rattle.nor_args.specs.Text.{Text}
use Rattle.nor_args.specs.declared.job.ChipJob.{ChipJob}
use Rattle.nor_files.specs.Files.{Nature}
use Rattle.nor_files.specs.Files.Failure.{Printed}
use Rattle.nor_console.specs.Roles.{IsShared, IsUnseenFile, IsUnseenStream}
use Rattle.nor_console.specs.Stored.{AreTwo}
use Rattle.nor_console.specs.Tasks.{named_by}
use Rattle.flashnor.specs.Tasks.{writes_back}
use Rattle.nor_console.specs.declared.messages.Fault.{Fault}
use Rattle.nor_console.specs.declared.messages.Fault.TheVariants as end
use Rattle.nor_console.specs.declared.messages.FileFault.TheVariants as file
use Rattle.nor_console.specs.declared.roles.Role.{Role}
use Rattle.nor_console.specs.declared.roles.Role.TheVariants as role

-- Holds if roles that need different files have names that are apart.
pub record FilesHaveOneRole (nature : Nature) (job : ChipJob) : Type 0 where
  pub status : writes_back job.task ≡ true → AreTwo nature job.programmer.image job.programmer.status
  pub image_layout : writes_back job.task ≡ true → AreTwo nature job.programmer.image (named_by job.task).layout
  pub status_layout : writes_back job.task ≡ true → AreTwo nature job.programmer.status (named_by job.task).layout
  pub status_wanted : writes_back job.task ≡ true → AreTwo nature job.programmer.status (named_by job.task).wanted
  pub image_trace : AreTwo nature job.programmer.image job.programmer.trace
  pub status_trace : AreTwo nature job.programmer.status job.programmer.trace
  pub trace_layout : AreTwo nature job.programmer.trace (named_by job.task).layout
  pub trace_wanted : AreTwo nature job.programmer.trace (named_by job.task).wanted
  pub image_output : AreTwo nature job.programmer.image (named_by job.task).output
  pub status_output : AreTwo nature job.programmer.status (named_by job.task).output
  pub trace_output : AreTwo nature job.programmer.trace (named_by job.task).output
  pub layout_output : AreTwo nature (named_by job.task).layout (named_by job.task).output
  pub image_journal : AreTwo nature job.programmer.image (named_by job.task).journal
  pub status_journal : AreTwo nature job.programmer.status (named_by job.task).journal
  pub trace_journal : AreTwo nature job.programmer.trace (named_by job.task).journal
  pub layout_journal : AreTwo nature (named_by job.task).layout (named_by job.task).journal
  pub wanted_journal : AreTwo nature (named_by job.task).wanted (named_by job.task).journal

pub record HasOwnTrace (nature : Nature) (job : ChipJob) : Type 0 where
  pub image : AreTwo nature job.programmer.image job.programmer.trace
  pub status : AreTwo nature job.programmer.status job.programmer.trace
  pub layout : AreTwo nature job.programmer.trace (named_by job.task).layout
  pub wanted : AreTwo nature job.programmer.trace (named_by job.task).wanted
  pub journal : AreTwo nature job.programmer.trace (named_by job.task).journal

abbrev pub file_with_role : ChipJob → Role → Option (Bor Text)
file_with_role job role.Image = job.programmer.image
file_with_role job role.Status = job.programmer.status
file_with_role job role.Trace = job.programmer.trace
file_with_role job role.Layout = (named_by job.task).layout
file_with_role job role.Wanted = (named_by job.task).wanted
file_with_role job role.Output = (named_by job.task).output
file_with_role job role.Journal = (named_by job.task).journal

-- the position of a role; if two roles have one file, the fault names the later role's file
abbrev pub order_of : Role → ℕ
order_of role.Image = 0
order_of role.Status = 1
order_of role.Trace = 2
order_of role.Layout = 3
order_of role.Wanted = 4
order_of role.Output = 5
order_of role.Journal = 6

-- True if the job may write the file in this role, or if the role is the journal.
abbrev pub is_written : ChipJob → Role → Bool
is_written job role.Image = writes_back job.task
is_written job role.Status = writes_back job.task
is_written job role.Layout = false
is_written job role.Wanted = false
is_written job _ = true

-- True if `earlier` precedes `later` and the two roles need different files. (`Image` and `Wanted` may share one.)
abbrev pub must_differ : ChipJob → (earlier later : Role) → Bool
must_differ job role.Image role.Wanted = false
must_differ job earlier later =
    nat_lt (order_of earlier) (order_of later) && (is_written job earlier || is_written job later)

-- Holds if this is file fault 5 with the file of the role `later`, for two roles that need different files
-- (`must_differ`) but whose names may refer to one file.
abbrev pub IsTwice : Nature → ChipJob → Fault → Type 0
IsTwice nature job fault = (earlier later : Role) × (must_differ job earlier later ≡ true)
    × IsShared nature (file_with_role job earlier) (file_with_role job later) fault

abbrev pub IsPrintedName : Nature → ChipJob → Text → Type 0
IsPrintedName nature job name = (role : Role) × IsSomeAnd (file_with_role job role) (λ of.
    (name ≡ of.now) × (nature.fails (Printed of.now) ≡ true))

abbrev pub IsStream : Nature → ChipJob → Fault → Type 0
IsStream nature job (end.File file.Taken of cause) = IsPrintedName nature job of.now
IsStream nature job _ = ⊥

abbrev pub changes_files : ChipJob → Bool
changes_files job = writes_back job.task || (is_some job.programmer.trace || is_some (named_by job.task).output)

abbrev pub IsWithoutStream : Nature → ChipJob → Fault → Type 0
IsWithoutStream nature job fault = (changes_files job ≡ true) × IsUnseenStream nature fault

abbrev pub IsUnseen : Nature → ChipJob → Fault → Type 0
IsUnseen nature job fault = (role : Role) × IsUnseenFile nature (file_with_role job role) fault

abbrev pub FailsFileRoles : Nature → ChipJob → Fault → Type 0
FailsFileRoles nature job fault = IsTwice nature job fault
    ⊎ (IsStream nature job fault ⊎ (IsUnseen nature job fault ⊎ IsWithoutStream nature job fault))
