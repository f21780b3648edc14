-- The addresses that a *code*, a value of the six protection bits, protects from programs and erases.
use Rattle.std.specs.Prelude.{◌+◌, ◌-◌, ◌*◌, ◌/◌, ◌%◌, ◌^◌, ◌==◌, ◌&&◌, ◌||◌, ℕ, Bool, not, nat_lt, nat_le, if◌then◌else◌}
use Rattle.nor_model.specs.Chip.{Chip, KeptBits, cmp_bit, sec_to_bp0}

-- The code of the bits `kept`, a number below 64: CMP, SEC, TB, BP2, BP1 and BP0, the highest bit first.
abbrev pub code_of : KeptBits → ℕ
code_of kept = 32 * cmp_bit kept + sec_to_bp0 kept

abbrev pub bp_of : (code : ℕ) → ℕ
bp_of code = code % 8

-- True if TB is set: the selected range is at the start of the chip instead of its end.
abbrev pub is_bottom : (code : ℕ) → Bool
is_bottom code = code / 8 % 2 == 1

-- True if SEC is set: BP 001 to 101 select 4 to 32 KiB instead of a fraction of the chip.
abbrev pub names_sectors : (code : ℕ) → Bool
names_sectors code = code / 16 % 2 == 1

-- True if CMP is set: a code that is defined protects the addresses outside the selected range.
abbrev pub is_complement : (code : ℕ) → Bool
is_complement code = code / 32 % 2 == 1

-- True if SEC is set and BP is 110, which the datasheets don't define. The model then protects all addresses.
abbrev pub is_undefined : (code : ℕ) → Bool
is_undefined code = names_sectors code && bp_of code == 6

-- The length in bytes of the range that `code` selects on a chip of `size` bytes.
abbrev pub named_length : (size code : ℕ) → ℕ
named_length size code =
    if bp_of code == 0 then 0
    else if bp_of code == 7 then size
    else if not (names_sectors code) then size / 2 ^ (7 - bp_of code)
    else if bp_of code == 1 then 4096
    else if bp_of code == 2 then 8192
    else if bp_of code == 3 then 16384
    else 32768

-- True if the address `a` is in the selected range. A range at the chip's end includes all addresses past the chip.
abbrev pub is_address_named : (size code a : ℕ) → Bool
is_address_named size code a =
    if is_bottom code then nat_lt a (named_length size code) else nat_le (size - named_length size code) a

unfoldable pub protected_by : (size code a : ℕ) → Bool
protected_by size code a =
    nat_lt a size
    && (is_undefined code
    || (if is_complement code then not (is_address_named size code a) else is_address_named size code a))

abbrev pub is_protected : Chip → (a : ℕ) → Bool
is_protected chip a = chip.config.scheme && protected_by chip.config.size (code_of chip.kept) a

-- True if the first or the last of the `len` bytes from `start` is protected. Because the protected addresses are at
-- one end of the chip, this means for a nonempty range on the chip that some address of it is protected.
abbrev pub is_block_protected : Chip → (start len : ℕ) → Bool
is_block_protected chip start len = is_protected chip start || is_protected chip (start + len - 1)
