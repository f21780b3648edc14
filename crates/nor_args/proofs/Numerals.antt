-- The numbers that the code parses are those of specs/Numbers.antt, and a text without a comma isn't a range.
use Rattle.std.proofs.Common.{◌≡◌, ℕ, ◌^◌, ◌<◌, ◌≤◌, ◌==◌, true, [], ◌∷◌, Option, Some, None, Result}
use Rattle.std.proofs.Common.{Ok, Err, length, cond, arith, nat_le}
use Rattle.std.specs.Prelude.{option_and_then}
use Rattle.std.specs.Char.{is_digit}
use Rattle.std.specs.List.{list_all, position_or_len}
use Rattle.std.specs.Result.{result_ok}
use Rattle.std.specs.Str.Parse.{AllDigits, ParsesUnsigned, without_leading_plus}
use Rattle.std.proofs.lemmas.Bool.Decides.{nat_tests}
use Rattle.std.proofs.lemmas.List.{at_drop_all}
use Rattle.nor_args.specs.Text.{Text, rest_of}
use Rattle.nor_args.specs.Numbers.{numeral, range_of}

without_plus : (radix : ℕ) (text : Text) → radix ≤ 36 → list_all (λ digit. is_digit digit radix) text ≡ true
    → without_leading_plus text ≡ text
without_plus radix text low all = grind (arith, nat_tests)

all_digits : (radix : ℕ) (text : Text) → list_all (λ digit. is_digit digit radix) text ≡ true → AllDigits radix text
all_digits radix [] all = tt
all_digits radix (c ∷ cs) all = grind (arith, nat_tests, all_digits radix cs)

abbrev pub at_most : ℕ → ℕ → Option ℕ
at_most greatest n = cond (nat_le n greatest) (Some n) None

pub numeral-parsed : {E : Type 0} (radix most greatest : ℕ) (text : Text) (r : Result ℕ E) → radix ≤ 36
    → greatest < 2 ^ 64 → list_all (λ digit. is_digit digit radix) text ≡ true → length text ≤ most
    → ParsesUnsigned 64 radix text r
    → numeral radix most greatest text ≡ option_and_then (at_most greatest) (result_ok r)
numeral-parsed radix most greatest text (Ok x) low fits all short parses =
    let read = rw (without_plus radix text low all) at parses in grind (arith, nat_tests)
numeral-parsed radix most greatest text (Err e) low fits all short parses =
    let read = rw (without_plus radix text low all) at parses in
    grind (arith, nat_tests, all_digits radix text all)

pub range_of-uncut : (text : Text) → position_or_len (λ byte. byte == 44) text ≡ length text → range_of text ≡ None
range_of-uncut text uncut =
    let none : rest_of text ≡ [] = at_drop_all (λ (x : Text). x) text _ (omega (arith, uncut)) in
    rw none (grind arith)
