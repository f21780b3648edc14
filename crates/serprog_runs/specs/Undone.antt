-- Runs that follow one another, from an interrupted change to the restore that succeeds, on modelled buses.
use Rattle.std.specs.Prelude.{◌≡◌, ◌⊎◌, ℕ, true, false, List, [], ◌∷◌, Option, Some, IfErr}
use Rattle.std.specs.Borrow.{Bor}
use Rattle.nor_model.specs.Bus.{BusState, KeepsNature}
use Rattle.nor_model.specs.Chip.{Chip, IsSame}
use Rattle.nor_model.specs.Power.{PowerLost}
use Rattle.nor_files.specs.Files.{FilesState, IsDurable, View}
use Rattle.nor_journal.specs.Text.{Content, text}
use Rattle.nor_layout.specs.declared.ranges.Span.{Span}
use Rattle.nor_session.specs.Headline.{CanRestore}
use Rattle.nor_args.specs.Text.{Text}
use Rattle.nor_args.specs.declared.job.Change.{Change}
use Rattle.nor_args.specs.declared.job.Operation.{Operation}
use Rattle.nor_args.specs.declared.job.Task.TheVariants as task
use Rattle.board_files.specs.declared.region_files.RegionFile.{RegionFile}
use Rattle.nor_serprog.specs.Device.{Device}
use Rattle.board_jobs.specs.Original.{CanRestoreFromFile, IsBackedUpIn, IsChangedAsAsked, IsUntouched, MayFail}
use Rattle.serprog_board.specs.Looking.{IsRestorableChip, OnlyLooks}
use Rattle.serprog_runs.specs.Run.{HasRun}

-- A run that performed a job (`HasRun`). The state of the job's bus was first `start` and then `last`. `made` are the
-- files before the job, and `after` those after the run. `files_of` returns the state of a store of files.
pub record JobRun {R : Type 0} (files_of : R → FilesState) : Type 0 where
  pub operation : Operation
  pub regions : List RegionFile
  pub ranges : Option (List Span)
  pub bytes : List ℕ
  pub made : View
  pub after : R
  pub start : BusState
  pub last : BusState
  pub out : Option (List ℕ)
  pub out' : Option (List ℕ)
  pub status : ℕ
  pub ran : HasRun operation regions ranges bytes made (files_of after) start last out out' status

-- Holds after a run of `--restore` on a modelled bus, if its journal could restore the original chip `first` at the
-- start.
pub record RestoreRunKeepsOriginal {R : Type 0} {files_of : R → FilesState} (journal : Content) (first : Chip)
    (run : JobRun files_of) : Type 0 where
  pub nature : KeepsNature run.start run.last
  -- At every exit the journal can still restore `first`.
  pub still : CanRestore journal first run.last
  -- If the exit status is 0, the chip has the bytes and the non-volatile status bits of `first`.
  pub back : run.status ≡ 0 → IsSame first run.last.chip
  -- The job may fail only as `MayFail` says, for example with error 12 because the bus stopped.
  pub fails : IfErr run.ran.outcome (MayFail run.operation journal first run.start run.ran.ended)

-- Holds after a run of a change on a modelled bus, with its journal in a file that obeys its contract.
pub record ChangeRunKeepsOriginal {R : Type 0} {files_of : R → FilesState} (change : Change) (file : Text)
    (run : JobRun files_of) : Type 0 where
  pub nature : KeepsNature run.start run.last
  -- At every exit the chip is untouched, or the file durably contains a journal that can restore it.
  pub restorable : IsUntouched run.start run.last
      ⊎ CanRestoreFromFile file run.start.chip run.last (files_of run.after)
  -- If the exit status is 0, the chip was changed as asked.
  pub asked : run.status ≡ 0
      → IsChangedAsAsked run.operation change run.ranges run.bytes run.start.chip run.last.chip

-- Holds if the file durably contains a backup of the chip that the run found, which can restore this chip.
abbrev pub HasBackedUpIn : {R : Type 0} {files_of : R → FilesState} → (file : Text) → JobRun files_of → Type 0
HasBackedUpIn {files_of = files_of} file run = IsBackedUpIn file run.start.chip run.last (files_of run.after)

-- Holds for a well-behaved bus to a chip on a board: a stop may interrupt an operation, and the chip may be of a
-- further type.
pub record IsOnBoard (state : BusState) : Type 0 where
  pub honest : state.honest ≡ true
  pub unsteady : state.steady ≡ false
  pub further : state.further ≡ true

-- Holds if a run may perform its job on the bus `start` after an earlier run left the bus `last`: what happened to the
-- chip in between left it restorable. For example, the programmer lost its power, and the chip was identified.
pub record ReachesFrom (last start : BusState) : Type 0 where
  pub on_board : IsOnBoard start
  pub restorable : (journal : Content) (first : Chip) → IsRestorableChip true journal first last.chip
      → CanRestore journal first start

-- Holds if calls that only look at the chip of a programmer, for example a connection that failed, took the chip from
-- `old` to `new`.
pub record IsOnlyLookedAt (old new : Chip) : Type 0 where
  pub before : Device
  pub was : before.chip ≡ old
  pub after : Device
  pub is : after.chip ≡ new
  pub looks : OnlyLooks before after

-- Holds if the chip stayed as it was or lost its power, or if a connection only looked at it.
abbrev pub MayBecome : (old new : Chip) → Type 0
MayBecome old new = ((new ≡ old) ⊎ PowerLost old new) ⊎ IsOnlyLookedAt old new

-- Holds if the chip went from `old` over the chips `between` to `new`, each time as `MayBecome` says.
abbrev pub BecameOver : (between : List Chip) → (old new : Chip) → Type 0
BecameOver [] old new = MayBecome old new
BecameOver (next ∷ later) old new = MayBecome old next × BecameOver later next new

-- Holds if a programmer has the chip `found` after a run left the bus `last`. `left` is the chip at the end of the run.
-- A bus that holds back a write enable shows WEL set, so WEL may differ. Since then the chip may have lost its power,
-- and connections may have failed, any number of times.
pub record FindsChipOf (last : BusState) (found : Chip) : Type 0 where
  pub left : Chip
  pub shown : record left { latch = last.chip.latch } ≡ last.chip
  pub between : List Chip
  pub kept : BecameOver between left found

-- Holds for a run of `--restore` that read `bytes` as its journal, after an earlier run left the bus `last`.
pub record RestoresAfter {R : Type 0} {files_of : R → FilesState} (bytes : List ℕ) (last : BusState)
    (run : JobRun files_of) : Type 0 where
  pub file : Bor Text
  pub restores : run.operation.task ≡ task.Restore file
  pub read : run.bytes ≡ bytes
  pub reaches : ReachesFrom last run.start

-- Holds for runs of `--restore` that follow one another, the first after an earlier run left the bus `last`, and then
-- the run `end`. Each of these runs read `bytes` as its journal, and may have ended with any exit status.
abbrev pub AreRestoresAfter : {R : Type 0} {files_of : R → FilesState} → (bytes : List ℕ) → (last : BusState)
    → List (JobRun files_of) → (end : JobRun files_of) → Type 0
AreRestoresAfter bytes last [] end = RestoresAfter bytes last end
AreRestoresAfter bytes last (run ∷ later) end = RestoresAfter bytes last run × AreRestoresAfter bytes run.last later end

-- Holds if the file durably contains a journal, and after any number of restores from this journal, each ended anyhow,
-- a restore with exit status 0 leaves a chip with the bytes and the non-volatile status bits of `first`. None of these
-- restores fails except as `MayFail` says.
pub record IsUndoneFrom {R : Type 0} (files_of : R → FilesState) (file : Text) (first : Chip) (last : BusState)
    (after : FilesState) : Type 0 where
  pub journal : Content
  pub bytes : List ℕ
  pub contains : bytes ≡ text journal
  pub durable : IsDurable file (Some bytes) after
  pub fails : (restores : List (JobRun files_of)) (end : JobRun files_of) → AreRestoresAfter bytes last restores end
      → IfErr end.ran.outcome (MayFail end.operation journal first end.start end.ran.ended)
  pub back : (restores : List (JobRun files_of)) (end : JobRun files_of) → AreRestoresAfter bytes last restores end
      → end.status ≡ 0 → IsSame first end.last.chip
