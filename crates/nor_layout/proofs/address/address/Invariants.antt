use Rattle.std.proofs.Common.{◌≡◌, ◌+◌, ◌-◌, ◌*◌, ◌^◌, ◌<◌, true, length, take, drop}
use Rattle.std.specs.List.{list_all}
use Rattle.nor_layout.specs.Address.{is_hex_digit, digits_number}
use Rattle.nor_layout.proofs.address.address.Given as goal

-- `value`, followed by the remaining digits, encodes the same number as all digits.
abbrev pub invariant-loop-byte : goal.invariant-loop-byte
invariant-loop-byte l = record {
  hexadecimal : list_all is_hex_digit (take l.byte-index l.digits) ≡ true;
  fits : l.value < 16 ^ l.byte-index;
  counts : l.value * 16 ^ (length l.digits - l.byte-index) + digits_number (drop l.byte-index l.digits) ≡ digits_number l.digits;
}
