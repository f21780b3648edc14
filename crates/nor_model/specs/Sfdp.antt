-- The SFDP bytes of the emulated chips (JESD216). They were made for this project, not read from Winbond's chips.
use Rattle.std.specs.Prelude.{ℕ, ◌/◌, ◌%◌, List, [], ◌∷◌}

-- The SFDP bytes whose double word 2 has these bytes, low byte first: the chip's size in bits, minus one.
abbrev pub sfdp_of : (size0 size1 size2 size3 : ℕ) → List ℕ
sfdp_of size0 size1 size2 size3 =
    0x53 ∷ 0x46 ∷ 0x44 ∷ 0x50 ∷ 0x00 ∷ 0x01 ∷ 0x00 ∷ 0xFF
    -- The parameter header: the basic table, revision 1.0, with nine double words, is at 10h.
    ∷ 0x00 ∷ 0x00 ∷ 0x01 ∷ 0x09 ∷ 0x10 ∷ 0x00 ∷ 0x00 ∷ 0xFF
    -- Double word 1: 20h erases 4 KiB, a page has 64 bytes or more, and an address has three bytes.
    ∷ 0x05 ∷ 0x20 ∷ 0x00 ∷ 0x00
    ∷ size0 ∷ size1 ∷ size2 ∷ size3
    ∷ 0x00 ∷ 0x00 ∷ 0x00 ∷ 0x00 ∷ 0x00 ∷ 0x00 ∷ 0x00 ∷ 0x00 ∷ 0x00 ∷ 0x00
    ∷ 0x00 ∷ 0x00 ∷ 0x00 ∷ 0x00 ∷ 0x00 ∷ 0x00 ∷ 0x00 ∷ 0x00 ∷ 0x00 ∷ 0x00
    -- Double words 8 and 9: 20h erases 2 ^ 12 bytes, 52h erases 2 ^ 15, and D8h erases 2 ^ 16.
    ∷ 0x0C ∷ 0x20 ∷ 0x0F ∷ 0x52 ∷ 0x10 ∷ 0xD8 ∷ 0x00 ∷ 0x00 ∷ []

abbrev pub sfdp_with : (density : ℕ) → List ℕ
sfdp_with density = sfdp_of (density % 256) (density / 256 % 256) (density / 65536 % 256) (density / 16777216)
