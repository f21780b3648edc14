-- The effect of `apply`: the unlock, the erases, the programs and the status write at the end.
use Rattle.std.specs.Prelude.{◌≡◌, ◌≤◌, ◌<◌, ◌+◌, ◌*◌, ◌/◌, ◌++◌, ◌&&◌, ◌||◌, ◌⊎◌, ◌==◌, ℕ, Bool, true, false, not, length, bit_and, if◌then◌else◌, ⊤}
use Rattle.nor_model.specs.Status.{bytes_of}
use Rattle.nor_model.specs.Chip.{Chip, kept_in}
use Rattle.nor_model.specs.Guard.{is_protected, code_of}
use Rattle.nor_model.specs.Sent.{Sent, has_sent, erases_of, programs_of}
use Rattle.nor_model.specs.Bus.{BusState}
use Rattle.nor_driver.specs.declared.waits.OperationError.{OperationError}
use Rattle.nor_driver.specs.declared.waits.OperationError.TheVariants.{Stopped, Timeout}
use Rattle.nor_driver.specs.StatusWrites.{is_status_with_code, with_code, EndsWithCode}
use Rattle.nor_driver.specs.Limits.{Limits, SendsExactly, Leaves}
use Rattle.nor_driver.specs.Operations.{most_operation}
use Rattle.nor_plan.specs.Planned.{planned}
use Rattle.nor_plan.specs.SectorSet.{has, LiesBelow}
use Rattle.nor_apply.specs.declared.changes.Changes.{Changes}
use Rattle.nor_apply.specs.declared.changes.Work.{Work}
use Rattle.nor_geometry.specs.Below.{count_below}
use Rattle.nor_geometry.specs.Counts.{sector_count}
use Rattle.nor_plan.specs.Content.{once_erased, is_programmed}
use Rattle.nor_apply.specs.Within.{is_writable}
use Rattle.nor_apply.specs.Change.{IsSized, MayChange, is_target_byte}
use Rattle.nor_apply.specs.Erasing.{is_erase_of}
use Rattle.nor_apply.specs.Spending.{Tallies, may_target}

abbrev pub touched_in : Changes → ℕ → Bool
touched_in changes = has changes.touched

abbrev pub raised_in : Changes → ℕ → Bool
raised_in changes = has changes.raised

-- True if the target protection bits must be written, because the present bits (0 after an unlock) differ from them.
abbrev pub writes_code : Changes → Bool
writes_code changes = not ((if changes.unlock then 0 else code_of (kept_in (bytes_of changes.status))) == changes.code)

abbrev pub status_writes : Changes → ℕ
status_writes changes = (if changes.unlock then 1 else 0) + (if writes_code changes then 1 else 0)

abbrev pub is_status_asked : Changes → (one two : ℕ) → Bool
is_status_asked changes one two =
    (changes.unlock && is_status_with_code changes.status 0 one two)
    || (writes_code changes && is_status_with_code changes.status changes.code one two)

abbrev pub sending : Changes → (wanted : ℕ → ℕ) → (erases programs status_writes : ℕ) → Limits
sending changes wanted erases programs status_writes = record {
  sectors = may_target (touched_in changes) changes.size;
  bytes = is_target_byte (touched_in changes) wanted;
  status = is_status_asked changes;
  erases = erases;
  programs = programs;
  status_writes = status_writes;
}

abbrev pub most_sent : Changes → (wanted : ℕ → ℕ) → Limits
most_sent changes wanted =
    sending changes wanted (sector_count (raised_in changes)) (16 * sector_count (touched_in changes))
    (status_writes changes)

pub record AreConsistent (changes : Changes) : Type 0 where
  pub inside : LiesBelow changes.touched (changes.size / 4096)
  pub raised : (s : ℕ) → raised_in changes s ≡ true → touched_in changes s ≡ true
  pub small : changes.size ≤ 16777216
  pub six_bits : changes.code < 64

pub record CanApply (changes : Changes) (wanted : ℕ → ℕ) (chip : Chip) : Type 0 where
  pub idle : chip.busy ≡ 0
  pub sized : IsSized changes.size changes.kinds chip
  pub kept : chip.kept ≡ kept_in (bytes_of changes.status)
  pub inside : (s : ℕ) → touched_in changes s ≡ true → 4096 * s + 4096 ≤ chip.config.size
  pub free : changes.unlock ≡ false → (a : ℕ) → touched_in changes (a / 4096) ≡ true → is_protected chip a ≡ false
  pub writable : (changes.unlock || writes_code changes) ≡ true → is_writable chip ≡ true
  pub raised : (s : ℕ) → raised_in changes s ≡ true → touched_in changes s ≡ true
  pub bytes : (a : ℕ) → touched_in changes (a / 4096) ≡ true → wanted a < 256
  pub falls : (a : ℕ) → touched_in changes (a / 4096) ≡ true → raised_in changes (a / 4096) ≡ false
      → bit_and (wanted a) (chip.bytes a) ≡ wanted a

pub record HasApplied (changes : Changes) (wanted : ℕ → ℕ) (old new : BusState) : Type 0 where
  pub config : new.chip.config ≡ old.chip.config
  pub bytes : (a : ℕ) → new.chip.bytes a ≡ (if touched_in changes (a / 4096) then wanted a else old.chip.bytes a)
  pub kept : new.chip.kept ≡ with_code changes.code old.chip.kept
  pub worn : (s : ℕ) → new.worn s ≡ (old.worn s || raised_in changes s)
  pub idle : new.chip.busy ≡ 0
  pub latch : new.chip.latch ≡ true → old.chip.latch ≡ true

-- A bound on the transactions of `apply`: a read, an erase and 16 programs per touched sector, and two status writes.
abbrev pub most_applied : ℕ → ℕ
most_applied touched = touched + most_operation * (17 * touched + 2)

abbrev pub LeavesApply : Changes → (wanted : ℕ → ℕ) → (old new : BusState) → Type 0
LeavesApply changes wanted =
    Leaves (most_applied (sector_count (touched_in changes))) (most_sent changes wanted) (CanApply changes wanted)
    (MayChange (touched_in changes) (raised_in changes) wanted)

-- Holds if the erases since `old` target each of `sectors`, and all these erases were sent before any page program.
pub record ErasesFirst (sectors : ℕ → Bool) (old new : BusState) : Type 0 where
  pub erasing : Sent
  pub later : Sent
  pub added : new.sent ≡ later ++ (erasing ++ old.sent)
  pub each : (s : ℕ) → sectors s ≡ true → has_sent (is_erase_of s) erasing ≡ true
  pub unprogrammed : programs_of erasing ≡ 0
  pub unerased : erases_of later ≡ 0

pub record DoesApply (changes : Changes) (wanted : ℕ → ℕ) (old new : BusState) (work : Work) : Type 0 where
  pub erases : work.erases ≡ length (planned changes.kinds (changes.size / 4096) (raised_in changes))
  pub fewer_erases : work.erases ≤ sector_count (raised_in changes)
  pub fewer_programs : work.programs ≤ 16 * sector_count (touched_in changes)
  pub exactly : SendsExactly work.erases work.programs (status_writes changes) old new
  pub in_order : ErasesFirst (raised_in changes) old new
  pub protects : EndsWithCode (code_of (kept_in (bytes_of changes.status))) changes.code old new
  pub tallies : Tallies (sector_count (touched_in changes)) old new
      (record { count = work.erases + work.programs + status_writes changes; transactions = work.transactions })
  pub done : old.honest ≡ true → CanApply changes wanted old.chip → HasApplied changes wanted old new
  pub programs : old.honest ≡ true → CanApply changes wanted old.chip
      → work.programs ≡ count_below 65536
      (is_programmed (touched_in changes) (once_erased (raised_in changes) old.chip.bytes) wanted)

abbrev pub NamesChange : Changes → OperationError → Type 0
NamesChange changes Stopped = ⊤
NamesChange changes (Timeout address) =
    ((1 ≤ status_writes changes) × (address ≡ 0)) ⊎ (touched_in changes (address / 4096) ≡ true)
