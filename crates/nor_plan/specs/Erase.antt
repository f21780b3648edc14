-- Lists of erases. `total` is the number of 4 KiB sectors of the chip.
use Rattle.std.specs.Prelude.{ℕ, ◌≡◌, ◌+◌, ◌≤◌, Bool, true, List, All}
use Rattle.std.specs.List.{list_any}
use Rattle.nor_model.specs.declared.config.Kinds.{Kinds}
use Rattle.nor_driver.specs.Units.{sectors_in, is_aligned, erases_sector}
use Rattle.nor_driver.specs.declared.units.Erase.{Erase}
use Rattle.nor_driver.specs.declared.units.EraseBlock.{EraseBlock}
use Rattle.nor_driver.specs.declared.units.EraseBlock.TheVariants.{Sector, Block32, Block64, Chip}

abbrev pub is_offered : Kinds → EraseBlock → Bool
is_offered kinds Sector = true
is_offered kinds Block32 = kinds.k32
is_offered kinds Block64 = kinds.k64
is_offered kinds Chip = true

pub record IsErase (kinds : Kinds) (total : ℕ) (erase : Erase) : Type 0 where
  pub offered : is_offered kinds erase.unit ≡ true
  pub aligned : is_aligned erase.unit erase.sector ≡ true
  pub within : erase.sector + sectors_in total erase.unit ≤ total

abbrev pub erased_by : (total : ℕ) → List Erase → (sector : ℕ) → Bool
erased_by total erases sector = list_any (erases_sector total sector) erases

-- Holds if the chip can carry out each of `erases`, and together they erase exactly the sectors of `set`.
pub record Covers (kinds : Kinds) (total : ℕ) (erases : List Erase) (set : ℕ → Bool) : Type 0 where
  pub units : All (IsErase kinds total) erases
  pub union : (sector : ℕ) → erased_by total erases sector ≡ set sector
