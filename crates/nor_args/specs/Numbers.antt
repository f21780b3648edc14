-- The numbers in the values of options.
use Rattle.std.specs.Prelude.{◌&&◌, ◌*◌, ◌-◌, ℕ, Bool, List, Option, Some, None, codes, drop, length, nat_eq, nat_le}
use Rattle.std.specs.Prelude.{nat_lt, option_and_then, option_map, slice_get, take, if◌then◌else◌}
use Rattle.std.specs.Char.{is_digit}
use Rattle.std.specs.List.{ends_with, list_all, starts_with}
use Rattle.std.specs.Option.{option_or}
use Rattle.std.specs.Result.{result_ok}
use Rattle.std.specs.Str.Parse.{digits_value}
use Rattle.hex.specs.Hex.{decode_sized}
use Rattle.nor_args.specs.Text.{Text, front_of, rest_of}

abbrev pub is_numeral : (radix most greatest : ℕ) → Text → Bool
is_numeral radix most greatest text = list_all (λ digit. is_digit digit radix) text
    && (nat_le 1 (length text) && (nat_le (length text) most && nat_le (digits_value radix text) greatest))

abbrev pub numeral : (radix most greatest : ℕ) → Text → Option ℕ
numeral radix most greatest text =
    if is_numeral radix most greatest text then Some (digits_value radix text) else None

abbrev pub decimal_number : Text → Option ℕ
decimal_number = numeral 10 20 18446744073709551615

abbrev pub polls_of : Text → Option ℕ
polls_of = numeral 10 20 65535

abbrev pub before_unit : (unit : Text) → Text → Option Text
before_unit unit text =
    if ends_with nat_eq text unit then Some (take (length text - length unit) text) else None

abbrev pub before_either : (unit other : Text) → Text → Option Text
before_either unit other text = option_or (before_unit unit text) (before_unit other text)

abbrev pub with_unit : (kilo mega : Option Text) → Text → Text × ℕ
with_unit (Some digits) mega text = (digits, 1000)
with_unit None (Some digits) text = (digits, 1000000)
with_unit None None text = (text, 1)

abbrev pub clock_parts : Text → Text × ℕ
clock_parts text = with_unit (before_either (codes "k") (codes "K") text)
    (before_either (codes "M") (codes "m") text) text

-- the clock in hertz, 1 to 4,294,967,295: a number in Hz, in kHz if `k` or `K` follows, in MHz if `M` or `m` follows
abbrev pub clock_of : Text → Option ℕ
clock_of text = option_and_then
    (λ number. if nat_lt 0 number && nat_le (number * (clock_parts text).1) 4294967295
    then Some (number * (clock_parts text).1) else None) (decimal_number (clock_parts text).0)

-- an address or a length below 2 to the power of 32: `0x` and 1 to 8 hexadecimal digits, or 1 to 10 decimal digits
abbrev pub number_or_length : Text → Option ℕ
number_or_length text = if starts_with nat_eq text (codes "0x") then numeral 16 8 4294967295 (drop 2 text)
    else numeral 10 10 4294967295 text

abbrev pub range_of : Text → Option (ℕ × ℕ)
range_of text =
    option_and_then (λ start. option_map (λ len. (start, len)) (number_or_length (rest_of text)))
    (number_or_length (front_of text))

abbrev pub unique_number : Text → Option (List ℕ)
unique_number text = result_ok (decode_sized text 8)

abbrev pub byte_number : Text → Option ℕ
byte_number text = option_and_then (λ bytes. slice_get bytes 0) (result_ok (decode_sized text 1))
