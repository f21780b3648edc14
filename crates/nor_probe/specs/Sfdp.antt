-- The meaning of SFDP bytes (JESD216). `header` has the eight bytes at 0, `first` the first parameter header, and
-- `table` the basic flash parameter table, at the address that `first` contains.
use Rattle.std.specs.Prelude.{ℕ, ◌==◌, ◌+◌, ◌-◌, ◌*◌, ◌/◌, ◌%◌, ◌^◌, nat_lt, nat_le, Bool, not, ◌&&◌, ◌||◌, if◌then◌else◌, List, [], ◌∷◌, ◌++◌, Result, Ok, Err, slice_index}
use Rattle.byteorder.specs.Endian.{little_from}
use Rattle.nor_model.specs.Size.{is_chip_size}
use Rattle.nor_probe.specs.declared.sfdp.Geometry.{Geometry}
use Rattle.nor_probe.specs.declared.sfdp.SfdpFault.{SfdpFault}
use Rattle.nor_probe.specs.declared.sfdp.SfdpFault.TheVariants.{Signature, Major, FirstHeader, Length, Address, Granularity, Size, NoSector}

-- Double word `k` of the table, counted from 1.
unfoldable pub double_word : (k : ℕ) → (table : List ℕ) → ℕ
double_word k table = little_from (4 * (k - 1)) 4 table

unfoldable pub has_signature : (header : List ℕ) → Bool
has_signature header =
    slice_index header 0 == 0x53 && slice_index header 1 == 0x46
    && slice_index header 2 == 0x44 && slice_index header 3 == 0x50

-- True if the first parameter header is that of the basic flash parameter table, in major revision 1.
unfoldable pub is_basic : (first : List ℕ) → Bool
is_basic first = slice_index first 0 == 0 && slice_index first 2 == 1

-- The length of addresses that the chip takes, which is in bits 17 and 18 of double word 1: 0 for three bytes, 1 for
-- three or four bytes, 2 for four bytes only. The value 3 is reserved.
unfoldable pub address_mode : (table : List ℕ) → ℕ
address_mode table = double_word 1 table / 2 ^ 17 % 4

-- True if the write granularity is 64 bytes or more, as bit 2 of double word 1 says.
unfoldable pub has_write_granularity : (table : List ℕ) → Bool
has_write_granularity table = double_word 1 table / 2 ^ 2 % 2 == 1

-- The size in bits: the value of double word 2 plus one or, if bit 31 is set, two to the power of the other bits.
unfoldable pub size_in_bits : (density : ℕ) → ℕ
size_in_bits density = if nat_lt density (2 ^ 31) then density + 1 else 2 ^ (density - 2 ^ 31)

unfoldable pub is_chip_size_in_bits : (bits : ℕ) → Bool
is_chip_size_in_bits bits = bits % 8 == 0 && is_chip_size (bits / 8)

abbrev pub is_erase_type_at : (exponent opcode : ℕ) → (table : List ℕ) → (at : ℕ) → Bool
is_erase_type_at exponent opcode table at = slice_index table at == exponent && slice_index table (at + 1) == opcode

-- True if one of the four erase types in double words 8 and 9 erases 2 ^ `exponent` bytes with this opcode.
unfoldable pub has_erase_type : (exponent opcode : ℕ) → (table : List ℕ) → Bool
has_erase_type exponent opcode table =
    is_erase_type_at exponent opcode table 28 || is_erase_type_at exponent opcode table 30
    || is_erase_type_at exponent opcode table 32 || is_erase_type_at exponent opcode table 34

-- The faults of the headers, each with its condition, in the order in which they are checked.
abbrev pub header_faults : (header first : List ℕ) → List (Bool × SfdpFault)
header_faults header first =
    (not (has_signature header), Signature)
    ∷ (not (slice_index header 5 == 1), Major)
    ∷ (not (is_basic first), FirstHeader)
    ∷ (nat_lt (slice_index first 3) 9, Length)
    ∷ []

abbrev pub table_faults : (table : List ℕ) → List (Bool × SfdpFault)
table_faults table =
    (nat_le 2 (address_mode table), Address)
    ∷ (not (has_write_granularity table), Granularity)
    ∷ (not (is_chip_size_in_bits (size_in_bits (double_word 2 table))), Size)
    ∷ (not (has_erase_type 0x0C 0x20 table), NoSector)
    ∷ []

abbrev pub geometry_of : (table : List ℕ) → Geometry
geometry_of table = record {
  size = size_in_bits (double_word 2 table) / 8;
  kinds = record { k32 = has_erase_type 0x0F 0x52 table; k64 = has_erase_type 0x10 0xD8 table };
}

abbrev pub first_fault_or : Geometry → List (Bool × SfdpFault) → Result Geometry SfdpFault
first_fault_or geometry [] = Ok geometry
first_fault_or geometry (case ∷ cases) = if case.0 then Err case.1 else first_fault_or geometry cases

abbrev pub sfdp_says : (header first table : List ℕ) → Result Geometry SfdpFault
sfdp_says header first table = first_fault_or (geometry_of table) (header_faults header first ++ table_faults table)

abbrev pub sfdp_fault_number : SfdpFault → ℕ
sfdp_fault_number Signature = 1
sfdp_fault_number Major = 2
sfdp_fault_number FirstHeader = 3
sfdp_fault_number Length = 4
sfdp_fault_number Address = 5
sfdp_fault_number Granularity = 6
sfdp_fault_number Size = 7
sfdp_fault_number NoSector = 8
