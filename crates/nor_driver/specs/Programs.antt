use Rattle.std.specs.Prelude.{◌≡◌, ◌≢◌, ◌≤◌, ◌<◌, ◌+◌, ◌-◌, ◌/◌, ◌==◌, ◌&&◌, ℕ, Bool, false, not, nat_le, nat_lt, List, [], ◌∷◌, length, slice_index, bit_and, if◌then◌else◌}
use Rattle.nor_model.specs.declared.running.Running.TheVariants as Runs
use Rattle.nor_model.specs.Chip.{Chip}
use Rattle.nor_model.specs.Guard.{is_protected}
use Rattle.nor_model.specs.Step.{is_idle}
use Rattle.nor_model.specs.Sent.{is_in_targeted, block_targeted, byte_from, is_byte}
use Rattle.nor_model.specs.Bus.{BusState}
use Rattle.nor_driver.specs.Limits.{programming}
use Rattle.nor_driver.specs.Operations.{ChangesOnly, HasEnded, IsCommandAt, ChipOperation}

pub record CanProgram (at len : ℕ) (chip : Chip) : Type 0 where
  pub idle : chip.busy ≡ 0
  pub inside : at + len ≤ chip.config.size
  pub free : is_protected chip at ≡ false

-- True if `chip` carries out a program at the address `at`, which must lie on the chip, after a write enable.
abbrev pub takes_program : Chip → ℕ → Bool
takes_program chip at = is_idle chip && not (is_protected chip at)

abbrev pub programmed : ℕ → List ℕ → (ℕ → ℕ) → ℕ → ℕ
programmed at sent old a =
    if nat_le at a && nat_lt a (at + length sent) then bit_and (old a) (slice_index sent (a - at)) else old a

abbrev pub is_sector_of : (at s : ℕ) → Bool
is_sector_of at s = is_in_targeted (block_targeted 1 (at / 4096)) s

abbrev pub is_in_page : (at a : ℕ) → Bool
is_in_page at a = a / 256 == at / 256

-- Holds at every exit of a program that the chip of a well-behaved bus can carry out. On a steady bus each byte in the
-- page is as it was or as programmed; on any other bus it may have any value.
pub record MayProgram (at : ℕ) (sent : List ℕ) (old new : BusState) : Type 0 where
  pub config : new.chip.config ≡ old.chip.config
  pub bytes : ChangesOnly old.steady (is_in_page at) (programmed at sent old.chip.bytes) old.chip.bytes new.chip.bytes
  pub kept : new.chip.kept ≡ old.chip.kept
  pub runs : new.chip.busy ≢ 0 → new.chip.running ≡ Runs.Program (at / 256)
  pub worn : (s : ℕ) → new.worn s ≡ old.worn s

abbrev pub HasProgrammed : (at : ℕ) → (sent : List ℕ) → (old new : BusState) → Type 0
HasProgrammed at sent old = HasEnded (programmed at sent old.chip.bytes) old.chip.kept old.worn old

abbrev pub page_program : (at : ℕ) → (sent : List ℕ) → ChipOperation
page_program at sent = record {
  limits = programming (is_sector_of at) (λ a byte. is_byte (byte_from at sent a) byte) 1;
  can = CanProgram at (length sent);
  ignores = λ chip. (at < chip.config.size) × (takes_program chip at ≡ false);
  may = MayProgram at sent;
  has = HasProgrammed at sent;
}

-- Holds if exactly a write enable and then the page program of `bytes` at the address `at` were sent.
pub record SendsProgram (at : ℕ) (bytes : List ℕ) (old new : BusState) : Type 0 where
  pub out : List ℕ
  pub added : new.sent ≡ out ∷ (0x06 ∷ []) ∷ old.sent
  pub programs : IsCommandAt 0x02 at bytes out
