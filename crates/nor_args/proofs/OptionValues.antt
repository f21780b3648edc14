-- Lemmas about the parsed value of an option that may be missing.
use Rattle.std.proofs.Common.{◌≡◌, false, Option, None, arith, option_map}
use Rattle.std.specs.Prelude.{option_and_then}
use Rattle.std.specs.Borrow.{Bor}
use Rattle.std.specs.Option.{IsSomeAnd, MatchOption}
use Rattle.nor_args.specs.Text.{Text}
use Rattle.nor_args.specs.Faults.{passes_test}
use Rattle.nor_args.specs.Programmer.{IsProgrammer, is_programmer_text}
use Rattle.nor_args.specs.declared.programmer.Programmer.{Programmer}

abbrev text_at : Option (Bor Text) → Option Text
text_at = option_map (λ t. t.now)

abbrev pub Means : Option Text → Option Programmer → Type 0
Means text found = MatchOption found (passes_test is_programmer_text text ≡ false)
    (λ programmer. IsSomeAnd text (λ t. IsProgrammer t programmer))

pub means_read : (text : Option (Bor Text)) (found : Option Programmer)
    → MatchOption text (found ≡ None)
    (λ t. MatchOption found (is_programmer_text t.now ≡ false) (IsProgrammer t.now))
    → Means (text_at text) found
means_read text found h = grind arith

pub viewed_read : {S U : Type 0} (f : Text → Option U) (v : S → U) (text : Option (Bor Text)) (found : Option S)
    → MatchOption text (found ≡ None) (λ t. option_map v found ≡ f t.now)
    → option_and_then f (text_at text) ≡ option_map v found
viewed_read f v text found h = grind arith
