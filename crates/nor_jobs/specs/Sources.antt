-- The contents of the files that a job reads before its call to the engine.
use Rattle.std.specs.Prelude.{◌≡◌, ◌⊎◌, [], ℕ, List, None, Option, replicate, ⊤}
use Rattle.nor_files.specs.Files.{View}
use Rattle.nor_layout.specs.declared.ranges.Span.{Span}
use Rattle.nor_args.specs.Text.{Text}
use Rattle.nor_args.specs.declared.job.Task.{Task}
use Rattle.nor_args.specs.declared.job.Task.TheVariants as task
use Rattle.nor_args.specs.declared.job.Wanted.{Wanted}
use Rattle.nor_args.specs.declared.job.Wanted.TheVariants as wanted
use Rattle.nor_console.specs.Files.{IsReadingFault, IsSharingFault}
use Rattle.nor_console.specs.Requests.{AreRangesOf, FailsToInclude}
use Rattle.nor_console.specs.Stored.{IsRead}
use Rattle.nor_console.specs.declared.messages.Fault.{Fault}
use Rattle.nor_jobs.specs.Restoring.{IsNoJournal}

-- Holds if `bytes` were read from the image that a change writes, or are empty because the change writes no image.
abbrev pub IsImage : View → Wanted → List ℕ → Type 0
IsImage view (wanted.Write image) bytes = IsRead view image.now 16777217 bytes
IsImage view _ bytes = bytes ≡ []

abbrev pub asked_bytes : Wanted → (size : ℕ) → (bytes : List ℕ) → List ℕ
asked_bytes wanted.Erase size bytes = replicate size 255
asked_bytes _ size bytes = bytes

abbrev pub IsAskedOf : View → Wanted → (size : ℕ) → (asked : List ℕ) → Type 0
IsAskedOf view wanted size asked =
    (bytes : List ℕ) × IsImage view wanted bytes × (asked ≡ asked_bytes wanted size bytes)

-- Holds if `ranges` are the addresses of the task's regions and `bytes` were read from its image or journal, as far as
-- the task has them.
abbrev pub AreSources : View → Task → Option (List Span) → List ℕ → Type 0
AreSources view (task.Read file regions) ranges bytes = AreRangesOf view None regions ranges
AreSources view (task.Verify file regions) ranges bytes =
    AreRangesOf view None regions ranges × IsRead view file.now 16777217 bytes
AreSources view (task.Change change) ranges bytes =
    AreRangesOf view None change.regions ranges × IsImage view change.wanted bytes
AreSources view (task.Restore journal) ranges bytes = IsRead view journal.now 16793662 bytes
AreSources view _ ranges bytes = ⊤

abbrev pub FailsImage : View → Wanted → Fault → Type 0
FailsImage view (wanted.Write image) fault = IsReadingFault view image.now 16777217 fault
FailsImage view _ fault = ⊥

abbrev pub FailsSources : View → Task → Fault → Type 0
FailsSources view (task.Read file regions) fault = FailsToInclude view None regions fault
FailsSources view (task.Verify file regions) fault =
    FailsToInclude view None regions fault ⊎ IsReadingFault view file.now 16777217 fault
FailsSources view (task.Change change) fault =
    FailsToInclude view None change.regions fault ⊎ FailsImage view change.wanted fault
FailsSources view (task.Restore journal) fault = IsSharingFault view journal.now 16793662 fault
FailsSources view _ fault = ⊥

abbrev pub IsInvalid : View → Text → Fault → Type 0
IsInvalid view name fault = (bytes : List ℕ) × IsRead view name 16793662 bytes × IsNoJournal bytes fault
