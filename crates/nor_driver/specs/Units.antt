-- Definitions for erase blocks. `total` is the number of 4 KiB sectors of the chip.
use Rattle.std.specs.Prelude.{◌==◌, ◌+◌, ◌%◌, ◌&&◌, ℕ, Bool, true, nat_le, nat_lt}
use Rattle.nor_model.specs.declared.config.Config.{Config}
use Rattle.nor_driver.specs.declared.units.Erase.{Erase}
use Rattle.nor_driver.specs.declared.units.EraseBlock.{EraseBlock}
use Rattle.nor_driver.specs.declared.units.EraseBlock.TheVariants.{Sector, Block32, Block64, Chip}

abbrev pub opcode_of : EraseBlock → ℕ
opcode_of Sector = 0x20
opcode_of Block32 = 0x52
opcode_of Block64 = 0xD8
opcode_of Chip = 0xC7

abbrev pub sectors_in : (total : ℕ) → EraseBlock → ℕ
sectors_in total Sector = 1
sectors_in total Block32 = 8
sectors_in total Block64 = 16
sectors_in total Chip = total

abbrev pub has_block : Config → EraseBlock → Bool
has_block config Sector = true
has_block config Block32 = config.kinds.k32
has_block config Block64 = config.kinds.k64
has_block config Chip = true

abbrev pub is_aligned : EraseBlock → (sector : ℕ) → Bool
is_aligned Sector sector = true
is_aligned Block32 sector = sector % 8 == 0
is_aligned Block64 sector = sector % 16 == 0
is_aligned Chip sector = sector == 0

abbrev pub erases_sector : (total sector : ℕ) → Erase → Bool
erases_sector total sector erase =
    nat_le erase.sector sector && nat_lt sector (erase.sector + sectors_in total erase.unit)
