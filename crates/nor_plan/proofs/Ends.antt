use Rattle.std.proofs.Common.{ℕ, zero, suc, ◌≡◌, ◌<◌, ◌≤◌, ◌+◌, Bool, true, filter, List, [], ◌∷◌, Option, Some, None, refl, ap, ◌∙◌, inl, inr, arith}
use Rattle.std.specs.Prelude.{MatchOption}
use Rattle.std.specs.List.{range_with_len}
use Rattle.std.proofs.lemmas.Bool.{cases_eq, cases_Bool, both_ways}
use Rattle.nor_plan.specs.declared.page.PageSpan.{PageSpan}
use Rattle.nor_plan.specs.Span.{ends}

abbrev pub AreEnds : (ℕ → Type 0) → Option PageSpan → Type 0
AreEnds P o =
    MatchOption o ((k : ℕ) → ¬ P k) (λ s. P s.first × P s.last × ((k : ℕ) → P k → (s.first ≤ k) × (k ≤ s.last)))

pub ends_once : (P : ℕ → Type 0) (o p : Option PageSpan) → AreEnds P o → AreEnds P p → o ≡ p
ends_once P None None a b = refl
ends_once P None (Some t) a b = absurd (a t.first b.0)
ends_once P (Some s) None a b = absurd (b s.first a.0)
ends_once P (Some s) (Some t) a b =
    let first : s.first ≡ t.first = omega (arith, a.2 t.first b.0, b.2 s.first a.0) in
    let last : s.last ≡ t.last = omega (arith, a.2 t.last b.1, b.2 s.last a.1) in
    let span : ℕ → ℕ → Option PageSpan = λ f l. Some (record { first = f; last = l }) in
    ap (λ f. span f s.last) first ∙ ap (span t.first) last

pub ends_like : (P Q : ℕ → Type 0) (o : Option PageSpan) → ((k : ℕ) → P k → Q k) → ((k : ℕ) → Q k → P k) → AreEnds P o
    → AreEnds Q o
ends_like P Q None to from none = λ k is. none k (from k is)
ends_like P Q (Some s) to from are = (to s.first are.0, to s.last are.1, λ k is. are.2 k (from k is))

abbrev pub Passes : (test : ℕ → Bool) → (from count k : ℕ) → Type 0
Passes test from count k = (from ≤ k) × (k < from + count) × (test k ≡ true)

in_front : (test : ℕ → Bool) (from count : ℕ) (others : List ℕ) → test from ≡ true
    → AreEnds (Passes test (from + 1) count) (ends others)
    → AreEnds (Passes test from (suc count)) (ends (from ∷ others))
in_front test from count [] here none = (
  (omega arith, omega arith, here),
  (omega arith, omega arith, here),
  λ k passes. let alone : ¬ (from < k) = λ later. none k (omega arith, omega arith, passes.2) in omega arith,
)
in_front test from count (j ∷ js) here are = (
  (omega arith, omega arith, here),
  (omega arith, omega arith, are.1.2),
  λ k passes. elim (cases_eq from k) [
    | inl same ↦ omega arith
    | inr later ↦ (passes.0, (are.2 k (omega arith, omega arith, passes.2)).1)
  ],
)

pub ends_of : (test : ℕ → Bool) (from count : ℕ)
    → AreEnds (Passes test from count) (ends (filter test (range_with_len from count)))
ends_of test from zero = λ k passes. absurd (omega arith)
ends_of test from (suc count) =
    let others : List ℕ = filter test (range_with_len (from + 1) count) in
    elim (cases_Bool (test from)) [
      | inl here ↦ rw here (in_front test from count others here (ends_of test (from + 1) count))
      | inr fails ↦ rw fails (ends_like (Passes test (from + 1) count) (Passes test from (suc count)) (ends others)
          (λ k passes. (omega arith, omega arith, passes.2))
          (λ k passes.
          let later : ¬ (k ≡ from) = λ same. both_ways (test k) (ap test same ∙ fails) passes.2 in
          (omega arith, omega arith, passes.2))
          (ends_of test (from + 1) count))
    ]
