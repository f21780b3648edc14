-- If `r` is `f` of a text, or `None` without a text, then `r` is `option_and_then f` of this optional text.
use Rattle.std.proofs.Common.{◌≡◌, Option, None, arith, option_map}
use Rattle.std.specs.Prelude.{option_and_then}
use Rattle.std.specs.Borrow.{Bor}
use Rattle.std.specs.Option.{MatchOption}
use Rattle.nor_args.specs.Text.{Text}

pub and_then_read : {T : Type 0} (f : Text → Option T) (o : Option (Bor Text)) (r : Option T)
    → MatchOption o (r ≡ None) (λ x. r ≡ f x.now) → option_and_then f (option_map (λ x. x.now) o) ≡ r
and_then_read f o r h = grind arith
