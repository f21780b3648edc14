-- The checks of the files of regions (`-i NAME:FILE`), before the job.
use Rattle.std.specs.Prelude.{◌≡◌, ◌<◌, ◌⊎◌, ◌||◌, ℕ, All, Bool, true, false, List, [], Option, None, Some, ⊤}
use Rattle.std.specs.Prelude.{length, slice_index_or}
use Rattle.std.specs.Borrow.{Bor}
use Rattle.std.specs.List.{AllPairs, Any}
use Rattle.std.specs.Str.{bytes_eq}
use Rattle.nor_files.specs.Files.{Nature, View}
use Rattle.nor_files.specs.Files.Failure.{Unread}
use Rattle.nor_journal.specs.Text.{magic}
use Rattle.nor_args.specs.Text.{Text}
use Rattle.nor_args.specs.declared.job.Task.{Task}
use Rattle.nor_args.specs.declared.job.Task.TheVariants as task
use Rattle.nor_args.specs.declared.job.Wanted.TheVariants as wanted
use Rattle.nor_args.specs.declared.job.Wanted.{Wanted}
use Rattle.nor_console.specs.Files.{IsUnreadFault}
use Rattle.nor_console.specs.Roles.{FailsApart, FailsUnprinted}
use Rattle.nor_console.specs.Stored.{AreTwo, Happens, IsRead}
use Rattle.nor_console.specs.Tasks.{named_by}
use Rattle.nor_console.specs.declared.messages.Fault.{Fault}
use Rattle.nor_console.specs.declared.messages.Fault.TheVariants as end
use Rattle.nor_console.specs.declared.messages.FileFault.TheVariants as file
use Rattle.nor_console.specs.declared.roles.FileNames.{FileNames}
use Rattle.board_files.specs.declared.region_faults.RegionFault.{RegionFault}
use Rattle.board_files.specs.declared.region_faults.RegionFault.TheVariants as wrong
use Rattle.board_files.specs.declared.region_files.RegionFile.{RegionFile}
use Rattle.board_files.specs.declared.early_ends.EarlyEnd.{EarlyEnd}
use Rattle.board_files.specs.declared.early_ends.EarlyEnd.TheVariants as early

abbrev pub is_erase : Wanted → Bool
is_erase wanted.Erase = true
is_erase _ = false

abbrev pub erases : Task → Bool
erases (task.Change change) = is_erase change.wanted
erases _ = false

pub record AreNamed (job : Task) (files : List RegionFile) : Type 0 where
  pub unerased : erases job ≡ true → files ≡ []
  pub named : All (λ region. ¬ region.file.now ≡ []) files

abbrev pub FailsNames : Task → List RegionFile → RegionFault → Type 0
FailsNames job files wrong.Erased = (erases job ≡ true) × (¬ files ≡ [])
FailsNames job files (wrong.Unnamed name) =
    Any (λ region. (region.name ≡ name) × (region.file.now ≡ [])) files
FailsNames job files _ = ⊥

abbrev pub IsApartFromLayout : Nature → (output layout : Option (Bor Text)) → Bor Text → Type 0
IsApartFromLayout nature None layout of = ⊤
IsApartFromLayout nature (Some output) layout of = AreTwo nature layout (Some of)

-- Holds if a region's file is apart from the device, the log, the journal and, for a read, the layout and the output.
pub record HasOneRole (nature : Nature) (device : Bor Text) (log : Option (Bor Text)) (named : FileNames)
    (of : Bor Text) : Type 0 where
  pub from_device : AreTwo nature (Some device) (Some of)
  pub from_log : AreTwo nature log (Some of)
  pub from_journal : AreTwo nature named.journal (Some of)
  pub from_output : AreTwo nature named.output (Some of)
  pub from_layout : IsApartFromLayout nature named.output named.layout of

abbrev pub AreTwoFiles : Nature → (one other : RegionFile) → Type 0
AreTwoFiles nature one other = AreTwo nature (Some one.file) (Some other.file)

abbrev pub AreDistinctIf : Nature → (output : Option (Bor Text)) → List RegionFile → Type 0
AreDistinctIf nature None files = ⊤
AreDistinctIf nature (Some output) files = AllPairs (AreTwoFiles nature) files

-- Holds if the file of each region has one role (`HasOneRole`), and a read writes each region to a file of its own.
pub record HaveFileRoles (nature : Nature) (device : Bor Text) (job : Task) (log : Option (Bor Text))
    (files : List RegionFile) : Type 0 where
  pub each : All (λ region. HasOneRole nature device log (named_by job) region.file) files
  pub distinct : AreDistinctIf nature (named_by job).output files

abbrev pub FailsWrittenRole : Nature → (output layout : Option (Bor Text)) → Bor Text → Fault → Type 0
FailsWrittenRole nature None layout of fault = ⊥
FailsWrittenRole nature (Some output) layout of fault = FailsApart nature layout (Some of) fault
    ⊎ (FailsApart nature (Some output) (Some of) fault ⊎ FailsUnprinted nature (Some of) fault)

abbrev pub FailsFileRole : Nature → Bor Text → (log : Option (Bor Text)) → FileNames → Bor Text → Fault → Type 0
FailsFileRole nature device log named of fault = FailsApart nature (Some device) (Some of) fault
    ⊎ (FailsApart nature log (Some of) fault
    ⊎ (FailsApart nature named.journal (Some of) fault ⊎ FailsWrittenRole nature named.output named.layout of fault))

-- Holds if `R` holds for some element of `xs` and some later element.
abbrev pub AnyPair : {X : Type 0} → (X → X → Type 0) → List X → Type 0
AnyPair {X} R xs = (i : ℕ) × (j : ℕ) × (any : X) × (i < j) × (j < length xs)
    × R (slice_index_or xs i any) (slice_index_or xs j any)

abbrev pub FailsDistinct : Nature → List RegionFile → Fault → Type 0
FailsDistinct nature files fault =
    AnyPair (λ earlier later. FailsApart nature (Some earlier.file) (Some later.file) fault) files

abbrev pub FailsDistinctIf : Nature → (output : Option (Bor Text)) → List RegionFile → Fault → Type 0
FailsDistinctIf nature None files fault = ⊥
FailsDistinctIf nature (Some output) files fault = FailsDistinct nature files fault

abbrev pub FailsRegionRoles : Nature → Bor Text → Task → (log : Option (Bor Text)) → List RegionFile → Fault → Type 0
FailsRegionRoles nature device job log files fault =
    Any (λ region. FailsFileRole nature device log (named_by job) region.file fault) files
    ⊎ FailsDistinctIf nature (named_by job).output files fault

-- Holds for `NotReadBack` if there are files of regions, and reading the output may fail.
abbrev pub IsNotReadBack : Nature → (output : Option (Bor Text)) → List RegionFile → RegionFault → Type 0
IsNotReadBack nature (Some output) files (wrong.NotReadBack name) =
    (name ≡ output) × (¬ files ≡ []) × (nature.fails (Unread output.now) ≡ true)
IsNotReadBack nature output files _ = ⊥

abbrev pub is_magic : List ℕ → Bool
is_magic start = bytes_eq start (magic (Some [])) || bytes_eq start (magic None)

-- Holds for file fault 4 of a file that begins as a journal.
abbrev pub IsOldJournal : View → Bor Text → Fault → Type 0
IsOldJournal view name (end.File file.Exists of cause) = (of ≡ name)
    × ((start : List ℕ) × IsRead view name.now 8 start × (is_magic start ≡ true))
IsOldJournal view name fault = ⊥

abbrev pub FailsOldFile : View → Bor Text → Fault → Type 0
FailsOldFile view name fault =
    IsOldJournal view name fault ⊎ (IsUnreadFault name.now fault × Happens view (Unread name.now))

abbrev pub FailsOldFiles : View → Task → List RegionFile → Fault → Type 0
FailsOldFiles view (task.Read output regions) files fault = Any (λ region. FailsOldFile view region.file fault) files
FailsOldFiles view _ files fault = ⊥

abbrev pub FailsRegionFiles : View → Bor Text → Task → (log : Option (Bor Text)) → List RegionFile → EarlyEnd → Type 0
FailsRegionFiles view device job log files (early.Region fault) =
    FailsNames job files fault ⊎ IsNotReadBack view.nature (named_by job).output files fault
FailsRegionFiles view device job log files (early.Fault fault) =
    FailsRegionRoles view.nature device job log files fault ⊎ FailsOldFiles view job files fault
FailsRegionFiles view device job log files _ = ⊥
