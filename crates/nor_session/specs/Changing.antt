-- The effect of the changes of a session or restore, and of the check of their result.
use Rattle.std.specs.Prelude.{◌≡◌, ◌≤◌, ◌+◌, ◌*◌, ◌/◌, ◌⊎◌, ℕ, Bool, true, List, Result, Ok, Err, if◌then◌else◌, ⊤}
use Rattle.nor_model.specs.Chip.{Chip, kept_in}
use Rattle.nor_model.specs.Guard.{code_of}
use Rattle.nor_model.specs.Status.{bytes_of}
use Rattle.nor_model.specs.Exchange.{Exchange}
use Rattle.nor_model.specs.History.{EndsBusy, EndsReading}
use Rattle.nor_model.specs.Bus.{BusState}
use Rattle.nor_driver.specs.Ready.{StaysReady}
use Rattle.nor_driver.specs.ReadBack.{EndsReadBack, EndsReadOther}
use Rattle.nor_driver.specs.OnlyReads.{Rested, Spent, HasStopped}
use Rattle.nor_driver.specs.Limits.{SendsExactly, Leaves}
use Rattle.nor_driver.specs.Operations.{most_operation}
use Rattle.nor_driver.specs.StatusWrites.{EndsWithCode}
use Rattle.nor_driver.specs.Polls.{AddsTransactions}
use Rattle.nor_geometry.specs.Below.{count_below}
use Rattle.nor_plan.specs.Planned.{fewest_erases}
use Rattle.nor_apply.specs.declared.changes.Changes.{Changes}
use Rattle.nor_apply.specs.declared.changes.Work.{Work}
use Rattle.nor_geometry.specs.Counts.{sector_count}
use Rattle.nor_plan.specs.Content.{once_erased, is_programmed}
use Rattle.nor_apply.specs.Within.{addresses_of}
use Rattle.nor_apply.specs.Change.{MayChange}
use Rattle.nor_session.specs.Checking.{CanCheck, IsFirstMismatch}
use Rattle.nor_apply.specs.Applying.{touched_in, raised_in, status_writes, most_sent, most_applied, CanApply, ErasesFirst, HasApplied}
use Rattle.nor_request.specs.declared.refusal.Refusal.{Refusal}
use Rattle.nor_request.specs.declared.refusal.Refusal.TheVariants.{Stopped, Timeout, Mismatch}

abbrev pub touched_count : Changes → ℕ
touched_count changes = sector_count (touched_in changes)

abbrev pub most_changed : Changes → ℕ
most_changed changes = most_applied (touched_count changes) + touched_count changes

abbrev pub read_back : Changes → Bool → ℕ
read_back changes verify = if verify then touched_count changes else 0

-- Holds after the check succeeded, with the counts `written` before it and `work` after it. If `verify` is set and
-- `CanCheck` held on a well-behaved bus, the touched sectors have their target bytes.
pub record DoesCheck (changes : Changes) (wanted : ℕ → ℕ) (verify : Bool) (written : Work) (old new : BusState)
    (work : Work) : Type 0 where
  pub erases : work.erases ≡ written.erases
  pub programs : work.programs ≡ written.programs
  pub transactions : work.transactions ≡ written.transactions + read_back changes verify
  pub unsent : new.sent ≡ old.sent
  pub added : AddsTransactions (read_back changes verify) (read_back changes verify) old.history new.history
  pub polled_ready : StaysReady old new
  pub sent : old.honest ≡ true → Spent (read_back changes verify) old new
  pub rested : old.honest ≡ true → Rested old new
  pub same : verify ≡ true → old.honest ≡ true → CanCheck (touched_in changes) old.chip
      → (a : ℕ) → touched_in changes (a / 4096) ≡ true → old.chip.bytes a ≡ wanted a

-- Holds if the check may fail with this error. If `CanCheck` held on a well-behaved bus, the address of `Mismatch` is
-- that of the first difference in the touched sectors.
abbrev pub CheckRefuses : Changes → (ℕ → ℕ) → (old new : BusState) → Refusal → Type 0
CheckRefuses changes wanted old new Stopped = HasStopped (touched_count changes) old new
CheckRefuses changes wanted old new (Mismatch address) = EndsReading address new.history
    × (old.honest ≡ true → CanCheck (touched_in changes) old.chip
    → IsFirstMismatch (touched_in changes) wanted old.chip.bytes address)
CheckRefuses changes wanted old new _ = ⊥

abbrev pub HasBytes : (sectors : ℕ → Bool) → (wanted : ℕ → ℕ) → Chip → Type 0
HasBytes sectors wanted chip = (a : ℕ) → sectors (a / 4096) ≡ true → chip.bytes a ≡ wanted a

-- Holds at every exit of the changes and their check. The modifying commands are within the limits `most_sent` and, if
-- `CanApply` held on a well-behaved bus, the chip changed only as `MayChange` allows.
abbrev pub LeavesChange : Changes → (wanted : ℕ → ℕ) → (old new : BusState) → Type 0
LeavesChange changes wanted =
    Leaves (most_changed changes) (most_sent changes wanted) (CanApply changes wanted)
    (MayChange (touched_in changes) (raised_in changes) wanted)

-- Holds after the changes and their check succeeded, with the counts of `work`. If `verify` is set and `CanCheck` held
-- for the touched sectors on a well-behaved bus, these sectors have their target bytes.
pub record DoesChange (changes : Changes) (wanted : ℕ → ℕ) (verify : Bool) (old new : BusState)
    (work : Work) : Type 0 where
  pub erases : work.erases ≡ fewest_erases changes.kinds (changes.size / 4096) (raised_in changes)
  pub fewer_erases : work.erases ≤ touched_count changes
  pub fewer_programs : work.programs ≤ 16 * touched_count changes
  pub few : work.transactions
      ≤ touched_count changes + read_back changes verify
      + most_operation * (work.erases + work.programs + status_writes changes)
  pub added : AddsTransactions work.transactions
      (touched_count changes + read_back changes verify
      + 3 * (work.erases + work.programs + status_writes changes)) old.history new.history
  pub least : 3 * (work.erases + work.programs + status_writes changes) + read_back changes verify ≤ work.transactions
  pub exactly : SendsExactly work.erases work.programs (status_writes changes) old new
  pub in_order : ErasesFirst (raised_in changes) old new
  pub protects : EndsWithCode (code_of (kept_in (bytes_of changes.status))) changes.code old new
  pub polled_ready : StaysReady old new
  pub sent : old.honest ≡ true → Spent work.transactions old new
  pub unsent : touched_count changes + status_writes changes ≡ 0 → new.sent ≡ old.sent
  pub done : old.honest ≡ true → CanApply changes wanted old.chip → HasApplied changes wanted old new
  pub programs : old.honest ≡ true → CanApply changes wanted old.chip
      → work.programs ≡ count_below 65536
      (is_programmed (touched_in changes) (once_erased (raised_in changes) old.chip.bytes) wanted)
  pub checked : verify ≡ true → old.honest ≡ true → CanCheck (touched_in changes) old.chip
      → HasBytes (touched_in changes) wanted new.chip

-- Holds if the changes and their check may fail with this error. On a well-behaved bus `Timeout` does not occur, and
-- `Mismatch` does not occur if `CanApply` held at the start.
abbrev pub ChangeErrors : Changes → (ℕ → ℕ) → (old new : BusState) → Refusal → Type 0
ChangeErrors changes wanted old new Stopped = HasStopped (most_changed changes) old new
ChangeErrors changes wanted old new (Timeout address) = EndsBusy new.history × (old.honest ≡ true → ⊥)
ChangeErrors changes wanted old new (Mismatch address) =
    EndsReading address new.history × (old.honest ≡ true → CanApply changes wanted old.chip → ⊥)
ChangeErrors changes wanted old new _ = ⊥

-- Holds if the result fits what was read back. After success with `verify` set, the last transactions read the touched
-- sectors with their target bytes. A mismatch names the first address in these sectors at which another byte was read.
abbrev pub FitsReadBack : Changes → (wanted : ℕ → ℕ) → (verify : Bool) → (old new : List Exchange)
    → Result Work Refusal → Type 0
FitsReadBack changes wanted verify old new (Ok work) =
    verify ≡ true → EndsReadBack (addresses_of (touched_in changes)) wanted old new
FitsReadBack changes wanted verify old new (Err (Mismatch address)) =
    EndsReadOther (addresses_of (touched_in changes)) wanted address old new
FitsReadBack changes wanted verify old new (Err _) = ⊤

-- Holds if the address of a timeout or mismatch, if any, is in a touched sector. It may be 0 for a timeout, if the
-- changes include a status write.
abbrev pub NamesTouchedSector : Changes → Refusal → Type 0
NamesTouchedSector changes (Timeout address) =
    ((1 ≤ status_writes changes) × (address ≡ 0)) ⊎ (touched_in changes (address / 4096) ≡ true)
NamesTouchedSector changes (Mismatch address) = touched_in changes (address / 4096) ≡ true
NamesTouchedSector changes _ = ⊤
