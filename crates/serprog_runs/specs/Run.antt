-- A run of flashnor-serprog: what its arguments ask for, how its job ends, what it prints, and its exit status.
use Rattle.std.specs.Prelude.{◌≡◌, ◌≤◌, ◌⊎◌, ℕ, Bool, List, IsSomeAnd, Option, None, Some, Result, Ok, Err}
use Rattle.std.specs.Prelude.{codes}
use Rattle.std.specs.Borrow.{Bor}
use Rattle.clap.specs.Words.{IsAmong}
use Rattle.clap.specs.declared.error.kind.ErrorKind.TheVariants as kind
use Rattle.nor_model.specs.Bus.{BusState}
use Rattle.nor_files.specs.Files.{FilesState, View}
use Rattle.nor_layout.specs.declared.ranges.Span.{Span}
use Rattle.nor_args.specs.Text.{Text}
use Rattle.nor_args.specs.Words.{IsHardwareJob, hardware_refusals_of}
use Rattle.nor_args.specs.declared.job.HardwareJob.TheVariants as hardware
use Rattle.nor_args.specs.declared.job.Operation.{Operation}
use Rattle.nor_args.specs.declared.job.Task.TheVariants as task
use Rattle.nor_console.specs.Printing.{AsksForVersion, IsAnswered, Prints}
use Rattle.nor_console.specs.declared.answers.Answer.{Answer}
use Rattle.serprog_runs.specs.ChipLayouts.{IsShown, form_on_chip}
use Rattle.serprog_runs.specs.Connected.{IsAhead, Seen, device_of}
use Rattle.serprog_board.specs.Unused.{IsUnused}
use Rattle.board_jobs.specs.Ending.{AreJobLines}
use Rattle.board_files.specs.Images.{HasDescribed}
use Rattle.board_jobs.specs.Jobs.{EndsJob}
use Rattle.board_progress.specs.Logging.{StayButLog}
use Rattle.board_jobs.specs.Looked.{HasOnlyLooked}
use Rattle.board_jobs.specs.Sends.{SendsOnly}
use Rattle.board_jobs.specs.StatusLocks.{HasRunLock}
use Rattle.serprog_board.specs.Setting.{IsDeviceOf}
use Rattle.board_files.specs.RegionCopies.{AreCopied}
use Rattle.board_files.specs.Regions.{regions_of}
use Rattle.board_files.specs.RegionRoles.{AreNamed, HaveFileRoles}
use Rattle.board_files.specs.Sources.{AreJobRegions, ArePreparedBytes, HasOwnLog, HaveOneRole, MayExpectImage}
use Rattle.board_files.specs.declared.region_files.RegionFile.{RegionFile}
use Rattle.board_jobs.specs.declared.chip_faults.JobFault.{JobFault}
use Rattle.serprog_runs.specs.declared.connected.Connected.{Connected}
use Rattle.serprog_runs.specs.declared.asked.Asked.{Asked}
use Rattle.serprog_runs.specs.declared.asked.Asked.TheVariants as asked
use Rattle.serprog_runs.specs.declared.run_fault.RunFault.{RunFault}
use Rattle.serprog_runs.specs.declared.run_fault.RunFault.TheVariants as run_fault

abbrev pub program : Text
program = codes "flashnor-serprog"

-- Holds if the arguments ask for this operation, and `device` is the device in the value of `-p`.
pub record IsAskedFor (words : List Text) (device : Bor Text) (operation : Operation) : Type 0 where
  pub programmer : Bor Text
  pub asked : IsHardwareJob program words
      (hardware.Chip (record { programmer = programmer; operation = Ok operation }))
  pub named : IsDeviceOf programmer.now device.now

abbrev pub IsAskedByArguments : List Text → Asked → Type 0
IsAskedByArguments words asked.List = IsHardwareJob program words hardware.List
IsAskedByArguments words (asked.Description file image) = IsHardwareJob program words (hardware.CheckJournal file image)
IsAskedByArguments words (asked.Chip setting operation) = IsAskedFor words setting.device operation

-- Holds if no file of the operation has two roles (but one file may be the layout and the image), `ranges` are the
-- included addresses, `bytes` are the bytes that the job uses, and `files` are the regions with a file. The fields say
-- more.
pub record IsPrepared {B : Type 0} (seen : Seen B) (view : View) (device : Bor Text) (operation : Operation)
    (files : List RegionFile) (ranges : Option (List Span)) (bytes : List ℕ) : Type 0 where
  pub shown : Option (List ℕ)
  pub source : IsShown seen device.now operation.named (form_on_chip (regions_of operation.task)) shown
  pub roles : HaveOneRole view.nature device operation.task
  pub own_log : HasOwnLog view.nature device operation.task operation.log
  pub regions : AreJobRegions view shown operation.task files ranges
  pub names : AreNamed operation.task files
  pub file_roles : HaveFileRoles view.nature device operation.task operation.log files
  pub sources : ArePreparedBytes view operation.is_replaced_chip operation.task files bytes

abbrev pub HasPrintedAnswer : Operation → Result Answer JobFault → (out out' : Option (List ℕ)) → Type 0
HasPrintedAnswer operation (Ok found) out out' = Prints (AreJobLines operation found) out out'
HasPrintedAnswer operation (Err fault) out out' = ⊥

-- Holds if nothing was sent after a job that returned an answer, and only reads after a job that failed.
abbrev pub LooksAfter : Result Answer JobFault → (ended new : BusState) → Type 0
LooksAfter (Ok found) ended new = new ≡ ended
LooksAfter (Err fault) ended new = HasOnlyLooked ended new

-- Holds if a job ended with `outcome` and sent only what its task may send. `ended` is the bus after the job. If the
-- exit status is 0, the answer was printed and, after a read, the bytes of regions were copied into their files.
pub record HasRun (operation : Operation) (files : List RegionFile) (ranges : Option (List Span)) (bytes : List ℕ)
    (before : View) (after : FilesState) (old new : BusState) (out out' : Option (List ℕ)) (status : ℕ)
    : Type 0 where
  pub outcome : Result Answer JobFault
  pub ended : BusState
  pub ends : EndsJob operation ranges bytes before after old ended outcome
  pub sends : SendsOnly operation.task bytes old ended after
  pub looked : LooksAfter outcome ended new
  pub few : status ≤ 1
  pub printed : status ≡ 0 → HasPrintedAnswer operation outcome out out'
  pub copied : status ≡ 0 → AreCopied operation files after.view

-- Holds if a run performed this operation on a chip. With `--wp-enable` or `--wp-disable` the run also changed no file.
abbrev pub HasRunBy : (srp0 : Option Bool) → Operation → List RegionFile → Option (List Span) → (bytes : List ℕ)
    → (before : View) → (after : FilesState) → (old new : BusState) → (out out' : Option (List ℕ)) → (status : ℕ)
    → Type 0
HasRunBy None operation files ranges bytes before after old new out out' status =
    HasRun operation files ranges bytes before after old new out out' status
HasRunBy (Some srp0) operation files ranges bytes before after old new out out' status =
    HasRunLock operation.named srp0 old new out out' status × (after.view ≡ before)

abbrev pub ArgumentsAskForHelp : List Text → Type 0
ArgumentsAskForHelp words = IsAmong kind.DisplayHelp (hardware_refusals_of program words)
    ⊎ IsAmong kind.DisplayVersion (hardware_refusals_of program words)

abbrev pub AsksForHelp : RunFault → Type 0
AsksForHelp (run_fault.Fault fault) = IsAnswered (Err fault) ⊎ AsksForVersion fault
AsksForHelp _ = ⊥

-- Holds if the arguments ask for the help or the version, or if `ended` is no request for the help or the version.
abbrev pub IsHelpAskedBy : List Text → RunFault → Type 0
IsHelpAskedBy words ended = AsksForHelp ended → ArgumentsAskForHelp words

-- Holds if an operation was run on a new bus to the device `name`. The connector found this bus (`finds`); it reads
-- ahead over the board's bus (`ahead`). Its state was first that of `start` and then `last`. `made` are the files after
-- the log was created.
pub record HasRunOperation {B : Type 0} (seen : Seen B) (files after : FilesState) (name : Bor Text)
    (operation : Operation) (device : Text) (last : BusState) (out out' : Option (List ℕ)) (status : ℕ)
    : Type 0 where
  pub start : Connected B
  pub same_device : device_of start ≡ device
  pub named : device ≡ name.now
  pub fresh : IsUnused (seen.state start)
  pub finds : seen.finds start
  pub ahead : IsAhead (seen.inside start) (seen.state start)
  pub regions : List RegionFile
  pub ranges : Option (List Span)
  pub bytes : List ℕ
  pub image : MayExpectImage operation bytes (seen.expected start)
  pub prepared : IsPrepared seen files.view name operation regions ranges bytes
  pub made : View
  pub logged : StayButLog operation.log files.view made
  pub ran : HasRunBy operation.srp0 operation regions ranges bytes made after (seen.state start) last out out' status

pub record HasRunJob {B : Type 0} (seen : Seen B) (files after : FilesState) (words : List Text) (device : Text)
    (last : BusState) (out out' : Option (List ℕ)) (status : ℕ) : Type 0 where
  pub name : Bor Text
  pub operation : Operation
  pub asked : IsAskedFor words name operation
  pub run : HasRunOperation seen files after name operation device last out out' status

-- Holds if the journal `file` is sealed and undamaged and, if an image was requested, the image was written.
pub record HasChecked (before after : View) (words : List Text) : Type 0 where
  pub file : Bor Text
  pub image : Option (Bor Text)
  pub asked : IsHardwareJob program words (hardware.CheckJournal file image)
  pub described : HasDescribed before file.now after image

-- Holds in each case in which a run may end with exit status 0: the help, the version or the list was requested,
-- `--check-journal` found a sealed and undamaged journal, or a job ended with status 0 on the bus `used`.
abbrev pub HasSucceeded : {B : Type 0} → Seen B → (files after : FilesState) → List Text
    → (used : Option (Connected B)) → (out out' : Option (List ℕ)) → Type 0
HasSucceeded seen files after words used out out' = (ArgumentsAskForHelp words
    ⊎ IsHardwareJob program words hardware.List)
    ⊎ (HasChecked files.view after.view words
    ⊎ IsSomeAnd used (λ connected.
    HasRunJob seen files after words (device_of connected) (seen.state connected) out out' 0))
