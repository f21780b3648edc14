-- The effect of a restore, a change and a backup on the original chip, on a modelled bus.
use Rattle.std.specs.Prelude.{◌≡◌, ◌/◌, ◌⊎◌, ℕ, Bool, false, List, Option, Some, Result, Ok, Err, IfErr, IsOk, OnOk, ⊤}
use Rattle.nor_model.specs.Bus.{BusState, KeepsNature}
use Rattle.nor_model.specs.Chip.{Chip, IsSame}
use Rattle.nor_model.specs.History.{EndsStopped}
use Rattle.nor_driver.specs.StatusWrites.{with_code}
use Rattle.nor_files.specs.Files.{FilesState, IsDurable}
use Rattle.nor_journal.specs.Saved.{is_saved}
use Rattle.nor_journal.specs.Text.{Content as Journal}
use Rattle.nor_layout.specs.declared.ranges.Span.{Span}
use Rattle.nor_probe.specs.Found.{HasOtherName}
use Rattle.nor_probe.specs.declared.table.ChipName.{ChipName}
use Rattle.nor_request.specs.Request.{IsWantedCode, wanted}
use Rattle.nor_request.specs.declared.refusal.Refusal.{Refusal}
use Rattle.nor_request.specs.declared.refusal.Refusal.TheVariants.{Memory, Mismatch, OtherName, StatusLocked, Stopped}
use Rattle.nor_session.specs.Backup.{IsBackupOf}
use Rattle.nor_session.specs.Headline.{CanBeRewritten, CanRestore, CanRestoreFrom}
use Rattle.nor_session.specs.Made.{IsTargetChip}
use Rattle.nor_args.specs.Text.{Text}
use Rattle.nor_args.specs.declared.job.Change.{Change}
use Rattle.nor_args.specs.declared.job.Operation.{Operation}
use Rattle.nor_console.specs.Requests.{request_for, what_of}
use Rattle.nor_console.specs.declared.answers.Answer.{Answer}
use Rattle.nor_console.specs.declared.messages.Fault.TheVariants as end
use Rattle.board_jobs.specs.Looked.{HasOnlyLooked}
use Rattle.board_jobs.specs.Sends.{KeepsSent}
use Rattle.board_jobs.specs.declared.chip_faults.JobFault.{JobFault}
use Rattle.board_jobs.specs.declared.chip_faults.JobFault.TheVariants as ended

-- Holds if a restore on a modelled bus may end with this error, even if its journal could restore the original chip
-- `first` at the start:
-- - Error 12, if the last transaction was a stop of the bus.
-- - Error 18 (out of memory), if nothing was sent.
-- - Error 3, if the chip has another name than `named`.
-- - Error 9 without `--quick`, if a locked status of `first` protects a saved sector.
abbrev pub MayRefuse : (quick : Bool) → (named : Option ChipName) → Journal → (first : Chip) → (old new : BusState)
    → Refusal → Type 0
MayRefuse quick named journal first old new Stopped = EndsStopped new.history
MayRefuse quick named journal first old new Memory = new ≡ old
MayRefuse quick named journal first old new OtherName = HasOtherName old.further named old.chip.config
MayRefuse quick named journal first old new StatusLocked = (quick ≡ false) × (¬ CanBeRewritten journal first)
MayRefuse quick named journal first old new _ = ⊥

-- Holds for error 12 if the last transaction was a stop of the bus, and for error 14 at an address that the journal
-- doesn't save.
abbrev pub FailsAtRest : Journal → (new : BusState) → Refusal → Type 0
FailsAtRest journal new Stopped = EndsStopped new.history
FailsAtRest journal new (Mismatch address) = is_saved journal (address / 4096) ≡ false
FailsAtRest journal new _ = ⊥

-- Holds if a restore succeeded, the chip has the bytes and the non-volatile status bits of `first`, and only the later
-- comparison of the sectors that the journal doesn't save failed.
pub record IsBackUncompared (journal : Journal) (first : Chip) (new : BusState) (outcome : Result Answer Refusal)
    (refusal : Refusal) : Type 0 where
  pub succeeded : IsOk outcome
  pub back : IsSame first new.chip
  pub fails : FailsAtRest journal new refusal

-- Holds if a restore on a modelled bus may end with this fault, even if its journal could restore the original chip
-- `first` at the start. The fault is an error of `MayRefuse`, or only the later comparison failed (`IsBackUncompared`).
abbrev pub MayFail : Operation → Journal → (first : Chip) → (old new : BusState) → JobFault → Type 0
MayFail operation journal first old new (ended.Fault (end.Refused refusal)) =
    MayRefuse operation.is_quick operation.named journal first old new refusal
MayFail operation journal first old new (ended.RestNotCompared outcome refusal) =
    IsBackUncompared journal first new outcome refusal
MayFail operation journal first old new _ = ⊥

-- Holds after a restore on a modelled bus, if its journal could restore the original chip `first` at the start.
pub record RestoreKeepsOriginal (operation : Operation) (journal : Journal) (first : Chip) (old new : BusState)
    (result : Result Answer JobFault) : Type 0 where
  pub nature : KeepsNature old new
  -- At every exit the journal can still restore `first`.
  pub still : CanRestore journal first new
  -- After success the chip has the bytes and the non-volatile status bits of `first`.
  pub back : OnOk result (IsSame first new.chip)
  pub fails : IfErr result (MayFail operation journal first old new)

-- Holds if a job only read: the chip has its bytes and non-volatile status bits as before, and no modifying command was
-- sent.
pub record IsUntouched (old new : BusState) : Type 0 where
  pub looked : HasOnlyLooked old new
  pub same : IsSame old.chip new.chip
  pub unsent : KeepsSent old new

-- Holds if the file durably contains a journal that can restore the original chip `first` on the bus `new`.
pub record CanRestoreFromFile (file : Text) (first : Chip) (new : BusState) (after : FilesState) : Type 0 where
  pub bytes : List ℕ
  pub durable : IsDurable file (Some bytes) after
  pub back : CanRestoreFrom bytes first new

-- Holds if the chip was changed from `old` to `new` as asked. `bytes` is the image of a write.
pub record IsChangedAsAsked (operation : Operation) (change : Change) (ranges : Option (List Span)) (bytes : List ℕ)
    (old new : Chip) : Type 0 where
  -- At each address of a write or an erase, the chip has the target byte; elsewhere its bytes are as before.
  pub made : IsTargetChip (wanted (request_for change operation.named ranges) bytes old) old new
  -- The protection bits are those of the requested range or, after a write or an erase, as before.
  pub code : ℕ
  pub is_wanted : IsWantedCode (what_of change.wanted) old code
  pub kept : new.kept ≡ with_code code old.kept

-- Holds for a success and for a fault of the comparison after the session, if the chip was changed as asked
-- (`IsChangedAsAsked`). Holds for every other fault.
abbrev pub EndsChangedAsAsked : Operation → Change → (ranges : Option (List Span)) → (bytes : List ℕ)
    → (old new : Chip) → Result Answer JobFault → Type 0
EndsChangedAsAsked operation change ranges bytes old new (Ok answer) =
    IsChangedAsAsked operation change ranges bytes old new
EndsChangedAsAsked operation change ranges bytes old new (Err (ended.NotCompared refusal)) =
    IsChangedAsAsked operation change ranges bytes old new
EndsChangedAsAsked operation change ranges bytes old new (Err _) = ⊤

-- Holds after a change on a modelled bus, with its journal in a file that obeys its contract.
pub record ChangeKeepsOriginal (operation : Operation) (change : Change) (ranges : Option (List Span))
    (bytes : List ℕ) (file : Text) (after : FilesState) (old new : BusState)
    (result : Result Answer JobFault) : Type 0 where
  pub nature : KeepsNature old new
  -- At every exit the chip is untouched, or the file durably contains a journal that can restore it.
  pub restorable : IsUntouched old new ⊎ CanRestoreFromFile file old.chip new after
  pub asked : EndsChangedAsAsked operation change ranges bytes old.chip new.chip result

-- Holds if the file durably contains a backup of the chip `first`, which can restore this chip on the bus `new`.
pub record IsBackedUpIn (file : Text) (first : Chip) (new : BusState) (after : FilesState) : Type 0 where
  pub bytes : List ℕ
  pub durable : IsDurable file (Some bytes) after
  pub saves : IsBackupOf bytes first
  pub back : CanRestoreFrom bytes first new
