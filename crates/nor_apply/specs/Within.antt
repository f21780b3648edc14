-- How far a chip may differ from the original chip, so that a journal can still make it the original chip again.
use Rattle.std.specs.Prelude.{◌≡◌, ◌≢◌, ◌/◌, ◌&&◌, ℕ, Bool, true, false, not}
use Rattle.nor_model.specs.declared.running.Running.{Running}
use Rattle.nor_model.specs.declared.running.Running.TheVariants.{StatusWrite}
use Rattle.nor_model.specs.Chip.{Chip, is_locked}
use Rattle.nor_model.specs.Power.{is_known_running, is_in_work}
use Rattle.nor_model.specs.Bus.{BusState}
use Rattle.nor_driver.specs.StatusWrites.{fixed_of}

-- True if the protection bits of the chip can be written: the chip has block protection, and its status isn't locked.
abbrev pub is_writable : Chip → Bool
is_writable chip = chip.config.scheme && not (is_locked chip.kept)

-- Holds if `running` is a known operation that works only at `addresses`. For a status write, the protection bits of
-- `first` are writable, and the status before the write differs from that of `first` only in protection bits.
pub record WorksIn (addresses : ℕ → Bool) (first : Chip) (running : Running) : Type 0 where
  pub known : is_known_running running ≡ true
  pub inside : (a : ℕ) → is_in_work running a ≡ true → addresses a ≡ true
  pub status : (one two : ℕ) → running ≡ StatusWrite one two
      → (is_writable first ≡ true) × (fixed_of (record { one = one; two = two }) ≡ fixed_of first.kept)

-- Holds if the chip is the original chip, `first`, except for bytes at `addresses`, protection bits (if they can be
-- written), BUSY and WEL. If the bus isn't steady, `WorksIn` holds for an operation in progress.
pub record IsWithin (addresses : ℕ → Bool) (first : Chip) (state : BusState) : Type 0 where
  pub config : state.chip.config ≡ first.config
  pub bytes : (a : ℕ) → addresses a ≡ false → state.chip.bytes a ≡ first.bytes a
  pub fixed : fixed_of state.chip.kept ≡ fixed_of first.kept
  pub kept : is_writable first ≡ false → state.chip.kept ≡ first.kept
  pub runs : state.steady ≡ false → state.chip.busy ≢ 0 → WorksIn addresses first state.chip.running

abbrev pub addresses_of : (sectors : ℕ → Bool) → (a : ℕ) → Bool
addresses_of sectors a = sectors (a / 4096)
