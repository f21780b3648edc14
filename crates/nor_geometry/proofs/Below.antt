-- Lemmas about `any_below` (whether a number below a bound passes a test) and `count_below` (how many numbers do).
use Rattle.std.proofs.Common.{◌≡◌, ◌<◌, ◌≤◌, ◌+◌, ℕ, suc, Bool, true, false, cond, get_or, add-one, refl, sym, ap, ◌∙◌, inl, inr, arith}
use Rattle.std.specs.Prelude.{MatchBool, if◌then◌else◌}
use Rattle.std.specs.List.{range_with_len}
use Rattle.std.proofs.lemmas.Bool.{cases_Bool, both_ways, false_from_ne_true}
use Rattle.std.proofs.lemmas.List.Folds.{list_any_at, Any-from_list_any}
use Rattle.std.proofs.lemmas.List.FromFn.{length-range_with_len, get_or-range_with_len, sum_by-map-range_with_len_more}
use Rattle.std.proofs.lemmas.List.Sums.{sum-map, count_by-le-length}
use Rattle.nor_geometry.specs.Below.{any_below, count_below}

pub same_tests : (p q : Bool) → (p ≡ true → q ≡ true) → (q ≡ true → p ≡ true) → p ≡ q
same_tests true q to from = sym (to refl)
same_tests false true to from = from refl
same_tests false false to from = refl

pub any_below-some : (n k : ℕ) (test : ℕ → Bool) → k < n → test k ≡ true → any_below n test ≡ true
unfolding any_below
any_below-some n k test below passes =
    let here : get_or (range_with_len 0 n) k 0 ≡ k = omega (arith, get_or-range_with_len 0 n k 0 below) in
    list_any_at test (range_with_len 0 n) k 0 (omega (arith, length-range_with_len 0 n)) (ap test here ∙ passes)

pub any_below-found : (n : ℕ) (test : ℕ → Bool) → any_below n test ≡ true → (k : ℕ) × (k < n) × (test k ≡ true)
unfolding any_below
any_below-found n test some =
    let found = Any-from_list_any test (range_with_len 0 n) some in
    let below : found.0 < n = omega (arith, found.2, length-range_with_len 0 n) in
    let place : found.1 ≡ 0 + found.0 = sym found.3 ∙ get_or-range_with_len 0 n found.0 found.1 below in
    (found.1, omega arith, found.4)

pub any_below-cases : (n : ℕ) (test : ℕ → Bool) → MatchBool (any_below n test) ((k : ℕ) × (k < n) × (test k ≡ true)) ((k : ℕ) → k < n → test k ≡ false)
any_below-cases n test =
    elim (cases_Bool (any_below n test)) [
      | inl some ↦ rw some (any_below-found n test some)
      | inr none ↦ rw none (λ k below.
          false_from_ne_true _ (λ passes. both_ways _ none (any_below-some n k test below passes)))
    ]

pub count_below-zero : (test : ℕ → Bool) → count_below 0 test ≡ 0
unfolding count_below
count_below-zero test = refl

pub count_below-more : (n : ℕ) (test : ℕ → Bool) → count_below (n + 1) test ≡ count_below n test + (if test n then 1 else 0)
unfolding count_below
count_below-more n test =
    let one : ℕ → ℕ = λ k. cond (test k) 1 0 in
    sym (sum-map one (range_with_len 0 (n + 1))) ∙ sum_by-map-range_with_len_more (λ x. x) one 0 n n (omega arith)
    ∙ ap (λ m. m + one n) (sum-map one (range_with_len 0 n))

pub count_below-suc : (n : ℕ) (test : ℕ → Bool) → count_below (suc n) test ≡ count_below n test + (if test n then 1 else 0)
count_below-suc n test = ap (λ m. count_below m test) (sym (add-one n)) ∙ count_below-more n test

pub count_below-most : (n : ℕ) (test : ℕ → Bool) → count_below n test ≤ n
unfolding count_below
count_below-most n test = omega (arith, count_by-le-length test (range_with_len 0 n), length-range_with_len 0 n)
