use Rattle.std.specs.Prelude.{ℕ, ◌≡◌, ◌≢◌, ◌<◌, true, MatchBool, EachIndex, List, slice_index}
use Rattle.nor_plan.specs.declared.plan.SectorPlan.{SectorPlan}
use Rattle.nor_plan.specs.Bytes.{IsWithinBits}

abbrev pub AreBytesOf : (ℕ → ℕ) → List ℕ → Type 0
AreBytesOf content bytes = EachIndex bytes (λ i. slice_index bytes i ≡ content i)

-- Holds if `plan` says what is needed to turn the first `count` bytes of `content` into those of `wanted`.
pub record IsPlan (content wanted : ℕ → ℕ) (count : ℕ) (plan : SectorPlan) : Type 0 where
  pub touched : MatchBool plan.touched ((i : ℕ) × (i < count) × (content i ≢ wanted i))
      ((i : ℕ) → i < count → content i ≡ wanted i)
  pub raised : MatchBool plan.raised
      ((i : ℕ) × (i < count) × ¬ IsWithinBits (wanted i) (content i))
      ((i : ℕ) → i < count → IsWithinBits (wanted i) (content i))
  pub needed : plan.raised ≡ true → plan.touched ≡ true
