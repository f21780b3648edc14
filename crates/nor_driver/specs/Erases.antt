use Rattle.std.specs.Prelude.{◌≡◌, ◌≢◌, ◌≤◌, ◌+◌, ◌*◌, ◌/◌, ◌&&◌, ◌||◌, ℕ, Bool, true, false, not, List, [], ◌∷◌, if◌then◌else◌}
use Rattle.nor_model.specs.declared.running.Running.TheVariants as Runs
use Rattle.nor_model.specs.Chip.{Chip}
use Rattle.nor_model.specs.Guard.{is_block_protected}
use Rattle.nor_model.specs.Step.{is_idle}
use Rattle.nor_model.specs.Sent.{is_in_targeted, block_targeted, begins_erase, targets}
use Rattle.nor_model.specs.Bus.{BusState}
use Rattle.nor_driver.specs.declared.units.Erase.{Erase}
use Rattle.nor_driver.specs.Units.{sectors_in, has_block, is_aligned, erases_sector}
use Rattle.nor_driver.specs.Limits.{erasing}
use Rattle.nor_driver.specs.Operations.{ChangesOnly, HasEnded, ChipOperation}

abbrev pub sectors_of : Chip → ℕ
sectors_of chip = chip.config.size / 4096

abbrev pub block_length : Chip → Erase → ℕ
block_length chip erase = 4096 * sectors_in (sectors_of chip) erase.unit

pub record IsOnChip (erase : Erase) (chip : Chip) : Type 0 where
  pub aligned : is_aligned erase.unit erase.sector ≡ true
  pub within : erase.sector + sectors_in (sectors_of chip) erase.unit ≤ sectors_of chip

pub record CanErase (erase : Erase) (chip : Chip) : Type 0 where
  pub on_chip : IsOnChip erase chip
  pub idle : chip.busy ≡ 0
  pub offered : has_block chip.config erase.unit ≡ true
  pub free : is_block_protected chip (4096 * erase.sector) (block_length chip erase) ≡ false

-- True if `chip` carries out `erase` after a write enable. The block must be aligned and lie on the chip.
abbrev pub takes_erase : Chip → Erase → Bool
takes_erase chip erase =
    is_idle chip && has_block chip.config erase.unit
    && not (is_block_protected chip (4096 * erase.sector) (block_length chip erase))

abbrev pub is_sector_in_block : Erase → Chip → ℕ → Bool
is_sector_in_block erase chip s = erases_sector (sectors_of chip) s erase

abbrev pub is_address_in_block : Erase → Chip → ℕ → Bool
is_address_in_block erase chip a = is_sector_in_block erase chip (a / 4096)

-- True if the command of `erase` targets the sector `s`. C7h targets all 4,096 sectors, even those past the chip's end.
abbrev pub is_sector_named : Erase → ℕ → Bool
is_sector_named erase s = is_in_targeted (block_targeted (sectors_in 4096 erase.unit) erase.sector) s

-- Holds at every exit of an erase that the chip of a well-behaved bus can carry out. On a steady bus each byte of the
-- block is as it was or FFh; on any other bus it may have any value.
pub record MayErase (erase : Erase) (old new : BusState) : Type 0 where
  pub config : new.chip.config ≡ old.chip.config
  pub bytes : ChangesOnly old.steady (is_address_in_block erase old.chip) (λ _. 255) old.chip.bytes new.chip.bytes
  pub kept : new.chip.kept ≡ old.chip.kept
  pub runs : new.chip.busy ≢ 0 → new.chip.running ≡ Runs.Erase (4096 * erase.sector) (block_length old.chip erase)
  pub worn : (s : ℕ) → is_sector_in_block erase old.chip s ≡ false → new.worn s ≡ old.worn s

abbrev pub HasErased : Erase → (old new : BusState) → Type 0
HasErased erase old =
    HasEnded (λ a. if is_address_in_block erase old.chip a then 255 else old.chip.bytes a) old.chip.kept
    (λ s. old.worn s || is_sector_in_block erase old.chip s) old

abbrev pub block_erase : Erase → ChipOperation
block_erase erase = record {
  limits = erasing (is_sector_named erase) 1;
  can = CanErase erase;
  ignores = λ chip. IsOnChip erase chip × (takes_erase chip erase ≡ false);
  may = MayErase erase;
  has = HasErased erase;
}

pub record SendsErase (erase : Erase) (old new : BusState) : Type 0 where
  pub out : List ℕ
  pub added : new.sent ≡ out ∷ (0x06 ∷ []) ∷ old.sent
  pub erases : begins_erase out ≡ true
  pub named : (s : ℕ) → is_sector_named erase s ≡ true → targets out s ≡ true
