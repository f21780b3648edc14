-- Whether any number below `n` passes a test, and how many of these numbers do.
use Rattle.std.specs.Prelude.{ℕ, Bool, count_by}
use Rattle.std.specs.List.{list_any, range_with_len}

unfoldable pub any_below : (n : ℕ) → (test : ℕ → Bool) → Bool
any_below n test = list_any test (range_with_len 0 n)

unfoldable pub count_below : (n : ℕ) → (test : ℕ → Bool) → ℕ
count_below n test = count_by test (range_with_len 0 n)
