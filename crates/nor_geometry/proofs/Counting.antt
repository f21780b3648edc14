use Rattle.std.proofs.Common.{◌≡◌, ◌<◌, ◌≤◌, ◌+◌, ◌∙◌, ℕ, zero, suc, Bool, true, false, sym, arith}
use Rattle.std.specs.Prelude.{if◌then◌else◌}
use Rattle.std.proofs.lemmas.Bool.{both_ways, false_from_ne_true}
use Rattle.nor_geometry.specs.Below.{any_below, count_below}
use Rattle.nor_geometry.proofs.Below.{any_below-found, same_tests, count_below-suc}
pub use Rattle.nor_geometry.proofs.Below.{any_below-some, count_below-zero, count_below-more, count_below-most}

pub count_below-with : (n : ℕ) (test : ℕ → Bool) → test n ≡ true → count_below (n + 1) test ≡ count_below n test + 1
count_below-with n test passes = count_below-more n test ∙ rw passes

pub count_below-without : (n : ℕ) (test : ℕ → Bool) → test n ≡ false → count_below (n + 1) test ≡ count_below n test
count_below-without n test fails =
    let step : count_below (n + 1) test ≡ count_below n test + 0 = count_below-more n test ∙ rw fails in
    omega arith

pub any_below-false : (n : ℕ) (test : ℕ → Bool) → any_below n test ≡ false → (k : ℕ) → k < n → test k ≡ false
any_below-false n test none k below =
    false_from_ne_true _ (λ passes. both_ways _ none (any_below-some n k test below passes))

pub any_below-all : (n : ℕ) (test : ℕ → Bool) → ((k : ℕ) → k < n → test k ≡ false) → any_below n test ≡ false
any_below-all n test each = false_from_ne_true _ (λ some.
    let found = any_below-found n test some in both_ways _ (each found.0 found.1) found.2)

pub any_below-same : (n : ℕ) (p q : ℕ → Bool) → ((k : ℕ) → k < n → p k ≡ q k) → any_below n p ≡ any_below n q
any_below-same n p q same =
    same_tests _ _
    (λ some. let (k, below, passes) = any_below-found n p some in any_below-some n k q below (sym (same k below) ∙ passes))
    (λ some. let (k, below, passes) = any_below-found n q some in any_below-some n k p below (same k below ∙ passes))

pub count_below-same : (n : ℕ) (p q : ℕ → Bool) → ((k : ℕ) → k < n → p k ≡ q k) → count_below n p ≡ count_below n q
count_below-same zero p q same = count_below-zero p ∙ sym (count_below-zero q)
count_below-same (suc n) p q same =
    rw (count_below-suc, count_below-suc, count_below-same n p q (λ k below. same k (omega arith)), same n (omega arith))

pub at_most_one : (b : Bool) → (if b then 1 else 0) ≤ 1
at_most_one true = omega arith
at_most_one false = omega arith

pub count_below-none : (n : ℕ) (test : ℕ → Bool) → ((k : ℕ) → k < n → test k ≡ false) → count_below n test ≡ 0
count_below-none zero test each = count_below-zero test
count_below-none (suc n) test each =
    rw (count_below-suc, count_below-none n test (λ k below. each k (omega arith)), each n (omega arith))

pub count_below-add : (m n : ℕ) (test : ℕ → Bool) → count_below (m + n) test ≡ count_below m test + count_below n (λ i. test (m + i))
count_below-add m zero test = let none : m + 0 ≡ m = omega arith in rw (none, count_below-zero) (omega arith)
count_below-add m (suc n) test =
    let next : m + suc n ≡ suc (m + n) = omega arith in
    rw (next, count_below-suc (m + n) test, count_below-suc, count_below-add m n test) (omega arith)
