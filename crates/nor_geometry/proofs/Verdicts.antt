use Rattle.std.proofs.Common.{◌≡◌, ◌<◌, ◌+◌, ◌||◌, ◌∙◌, ℕ, zero, suc, Bool, true, false, ap, sym, arith, inl, inr}
use Rattle.std.specs.Prelude.{MatchBool, ◌==◌}
use Rattle.std.proofs.lemmas.Bool.{cases_eq, or_left, ne_eqb, eq-eqb}
use Rattle.nor_geometry.specs.Below.{any_below, count_below}
use Rattle.nor_geometry.proofs.Below.{any_below-some, count_below-suc}
use Rattle.nor_geometry.proofs.Counting.{any_below-all, count_below-same}

pub any_below-decided : (n : ℕ) (verdict : Bool) (test : ℕ → Bool) (P Q : ℕ → Type 0) → ((k : ℕ) → P k → test k ≡ true) → ((k : ℕ) → Q k → test k ≡ false)
    → MatchBool verdict ((k : ℕ) × (k < n) × P k) ((k : ℕ) → k < n → Q k) → verdict ≡ any_below n test
any_below-decided n true test P Q passes fails some = sym (any_below-some n some.0 test some.1 (passes some.0 some.2))
any_below-decided n false test P Q passes fails none = sym (any_below-all n test (λ k below. fails k (none k below)))

pub count_below-insert : (n k : ℕ) (p q : ℕ → Bool) → k < n → p k ≡ false → ((s : ℕ) → q s ≡ ((s == k) || p s)) → count_below n q ≡ count_below n p + 1
count_below-insert zero k p q below fails inserted = absurd (omega arith)
count_below-insert (suc n) k p q below fails inserted =
    elim (cases_eq k n) [
      | inl same ↦
          let old : p n ≡ false = ap p (sym same) ∙ fails in
          let new : q n ≡ true = inserted n ∙ or_left (n == k) (p n) (eq-eqb n k (sym same)) in
          let rest : count_below n q ≡ count_below n p =
          count_below-same n q p (λ s lower. inserted s ∙ rw (ne_eqb s k (λ e. absurd (omega arith)))) in
          rw (count_below-suc, count_below-suc, new, old, rest) (omega arith)
      | inr other ↦
          let rest : count_below n q ≡ count_below n p + 1 = count_below-insert n k p q (omega arith) fails inserted in
          let here : q n ≡ p n = inserted n ∙ rw (ne_eqb n k (λ e. other (sym e))) in
          rw (count_below-suc, count_below-suc, here, rest) (omega arith)
    ]
