use Rattle.std.proofs.Common.{◌≡◌, ℕ, ◌+◌, ◌-◌, ◌<◌, ◌⊎◌, inl, inr, arith, ap}
use Rattle.std.specs.Prelude.{Option, None, Some, IfSome, IfNone, Bool, not, ◌||◌, ◌==◌, if◌then◌else◌}
use Rattle.std.proofs.lemmas.Bool.{cases_order}
use Rattle.std.proofs.lemmas.Bool.Decides.{nat_tests}
use mathlib.Core.Bool.{beq}
use Rattle.nor_model.specs.Offer.{ProtectsExactly, IsLeastCode, IsNotOffered}

pub record AreAlike (start len start' len' : ℕ) : Type 0 where
  pub as_long : len ≡ len'
  pub alike : (len' ≡ 0) ⊎ (start ≡ start')

pub protects-alike : (size code start len start' len' : ℕ) → ProtectsExactly size code start len
    → AreAlike start len start' len' → ProtectsExactly size code start' len'
protects-alike size code start len start' len' protects alike a =
    (λ protected. let here = (protects a).0 protected in omega arith, λ within. (protects a).1 (omega arith))

pub alike-protects : (size code start len start' len' : ℕ) → ProtectsExactly size code start len
    → ProtectsExactly size code start' len' → AreAlike start len start' len'
alike-protects size code start len start' len' protects protects' =
    let first = protects start in let first' = protects' start in
    let last = protects (start + len - 1) in let last' = protects' (start + len - 1) in
    let begin = protects start' in let begin' = protects' start' in
    let end = protects (start' + len' - 1) in let end' = protects' (start' + len' - 1) in
    grind (arith, first, first', last, last', begin, begin', end, end')

pub least_found : (size code start len start' len' : ℕ) (found : Option ℕ) → IfSome found (IsLeastCode size start' len')
    → IfNone found (IsNotOffered size start' len') → ProtectsExactly size code start' len'
    → IsLeastCode size start len code
    → found ≡ Some code
least_found size code start len start' len' None least none there is_least = absurd (none code is_least.defined there)
least_found size code start len start' len' (Some other) least none there is_least =
    elim (cases_order other code) [
      | inl same ↦ ap Some same
      | inr (inl lower) ↦ absurd (is_least.least other lower least.defined
          (protects-alike size other start' len' start len least.protects
          (alike-protects size code start' len' start len there is_least.protects)))
      | inr (inr above) ↦ absurd (least.least code above is_least.defined there)
    ]

pub starts : (size len : ℕ) (complement bottom : Bool) → 0 < len
    → (if not (beq bottom complement) || len == 0 then 0 else size - len)
    ≡ (if complement then (if bottom then size - len else 0) else (if bottom then 0 else size - len))
starts size len complement bottom some = grind (arith, nat_tests)
