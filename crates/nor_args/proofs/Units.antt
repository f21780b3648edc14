use Rattle.std.proofs.Common.{◌≡◌, ◌≤◌, true, false, Option, Some, None, MatchOption, arith, length, option_map, refl}
use Rattle.std.specs.Borrow.{Bor}
use Rattle.std.specs.Str.Pattern.{FindsTextSuffix, StripsSuffix}
use Rattle.std.proofs.lemmas.Str.Pattern.{ends_text}
use Rattle.nor_args.specs.Text.{Text}
use Rattle.nor_args.specs.Numbers.{before_unit}

pub before_unit-stripped : (unit text : Text) (r : Option (Bor Text))
    → MatchOption r (FindsTextSuffix unit text None) (λ x. StripsSuffix (FindsTextSuffix unit) text x.now)
    → option_map (λ front. front.now) r ≡ before_unit unit text
before_unit-stripped unit text None lacks = rw (← ends_text false unit text lacks) refl
before_unit-stripped unit text (Some front) strips =
    let long : strips.0 ≤ length text = omega (arith, strips.3) in
    let at_end = ends_text true unit text (strips.0, strips.1, long, rw strips.1.0 strips.1.2) in
    rw (← at_end) (rw (strips.2, strips.1.0) refl)
