use Rattle.std.proofs.Common.{◌≡◌, ℕ, suc, ◌+◌, ◌-◌, ◌*◌, ◌^◌, ◌<◌, ◌≤◌, true, List, length, get_or, drop, arith}
use Rattle.std.proofs.Math.Nat.{pow-le-pow_right, pow-suc}
use Rattle.std.proofs.lemmas.Bool.Decides.{nat_tests}
use Rattle.std.proofs.lemmas.List.{drop_more, length-drop}
use Rattle.std.specs.Char.{digit_value}
use Rattle.nor_layout.specs.Address.{is_hex_digit, hex_value, digits_number}

pub digit_is : (byte : ℕ) → digit_value byte < 16 → (is_hex_digit byte ≡ true) × (digit_value byte ≡ hex_value byte)
digit_is byte below = grind (arith, nat_tests)

-- After one more digit was read, `value` followed by the remaining digits encodes the same number as before.
pub number_of-more : (digits : List ℕ) (i value : ℕ) → i < length digits
    → value * 16 ^ (length digits - i) + digits_number (drop i digits) ≡ (value * 16 + hex_value (get_or digits i 0)) * 16 ^ (length digits - (i + 1)) + digits_number (drop (i + 1) digits)
number_of-more digits i value lt =
    let k : length digits - i ≡ suc (length digits - (i + 1)) = omega arith in
    rw (drop_more digits i 0 lt, length-drop (i + 1) digits, k, pow-suc) (omega arith)

pub pow-fits : (i : ℕ) → i ≤ 8 → 16 ^ i ≤ 2 ^ 32
pow-fits i le = pow-le-pow_right {n = 16} (omega arith) {i = i} {j = 8} le
