use Rattle.std.specs.Prelude.{ℕ, ◌+◌, ◌-◌, ◌*◌, ◌^◌, Bool, ◌&&◌, ◌||◌, ◌==◌, nat_le, if◌then◌else◌, List, [], ◌∷◌, length, Option, Some, None}
use Rattle.std.specs.List.{list_all}

abbrev pub is_hex_digit : ℕ → Bool
is_hex_digit byte =
    (nat_le 48 byte && nat_le byte 57) || (nat_le 65 byte && nat_le byte 70)
    || (nat_le 97 byte && nat_le byte 102)

abbrev pub hex_value : ℕ → ℕ
hex_value byte = if nat_le byte 57 then byte - 48 else if nat_le byte 70 then byte - 55 else byte - 87

abbrev pub digits_number : List ℕ → ℕ
digits_number [] = 0
digits_number (digit ∷ digits) = hex_value digit * 16 ^ length digits + digits_number digits

abbrev pub digits_of : List ℕ → List ℕ
digits_of [] = []
digits_of (a ∷ []) = a ∷ []
digits_of (a ∷ b ∷ digits) = if (a == 48) && (b == 120) then digits else a ∷ b ∷ digits

abbrev pub are_digits : List ℕ → Bool
are_digits digits = nat_le 1 (length digits) && nat_le (length digits) 8 && list_all is_hex_digit digits

abbrev pub digits_address : List ℕ → Option ℕ
digits_address text = if are_digits (digits_of text) then Some (digits_number (digits_of text)) else None
