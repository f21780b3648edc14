use Rattle.std.specs.Prelude.{ℕ, ◌≡◌, ◌≢◌, ◌<◌, ◌≤◌, bit_and, List, length, slice_index, SomeIndex, EachIndex}

abbrev pub AllAgree : (a b : List ℕ) → Type 0
AllAgree a b = EachIndex a (λ k. slice_index a k ≡ slice_index b k)

abbrev pub AgreeWithin : (a b : List ℕ) → (from to : ℕ) → Type 0
AgreeWithin a b from to = (k : ℕ) → from ≤ k → k < to → slice_index a k ≡ slice_index b k

abbrev pub DifferAt : (a b : List ℕ) → ℕ → Type 0
DifferAt a b k = (k < length a) × (slice_index a k ≢ slice_index b k)

abbrev pub SomeDiffer : (a b : List ℕ) → Type 0
SomeDiffer a b = SomeIndex a (λ k. slice_index a k ≢ slice_index b k)

abbrev pub IsWithinBits : (inner outer : ℕ) → Type 0
IsWithinBits inner outer = bit_and inner outer ≡ inner

-- Holds if programs without an erase can turn `old` into `target`, because no bit is 1 in `target` and 0 in `old`.
abbrev pub NoneRises : (old target : List ℕ) → Type 0
NoneRises old target = EachIndex old (λ k. IsWithinBits (slice_index target k) (slice_index old k))

abbrev pub SomeRise : (old target : List ℕ) → Type 0
SomeRise old target = SomeIndex old (λ k. ¬ IsWithinBits (slice_index target k) (slice_index old k))

pub record IsFirstDifference (a b : List ℕ) (k : ℕ) : Type 0 where
  pub within : k < length a
  pub differs : slice_index a k ≢ slice_index b k
  pub before : (j : ℕ) → j < k → slice_index a j ≡ slice_index b j

pub record IsLastDifference (a b : List ℕ) (k : ℕ) : Type 0 where
  pub within : k < length a
  pub differs : slice_index a k ≢ slice_index b k
  pub after : (j : ℕ) → k < j → j < length a → slice_index a j ≡ slice_index b j
