use Rattle.std.specs.Prelude.{◌≡◌, ◌<◌, ◌≤◌, ◌+◌, ◌↔◌, ℕ, true, false}
use Rattle.nor_model.specs.Guard.{protected_by, is_undefined}

abbrev pub ProtectsExactly : (size code start len : ℕ) → Type 0
ProtectsExactly size code start len = (a : ℕ) → (protected_by size code a ≡ true) ↔ ((start ≤ a) × (a < start + len))

-- Holds if `code` is defined and protects exactly this range. The start of an empty range must be 0.
pub record IsRangeOf (size code start len : ℕ) : Type 0 where
  pub defined : is_undefined code ≡ false
  pub exactly : ProtectsExactly size code start len
  pub plain : len ≡ 0 → start ≡ 0

pub record IsDefined (code : ℕ) : Type 0 where
  pub six_bits : code < 64
  pub defined : is_undefined code ≡ false

pub record IsLeastCode (size start len code : ℕ) : Type 0 where
  pub defined : IsDefined code
  pub protects : ProtectsExactly size code start len
  pub least : (lower : ℕ) → lower < code → IsDefined lower → ¬ ProtectsExactly size lower start len

abbrev pub IsNotOffered : (size start len : ℕ) → Type 0
IsNotOffered size start len = (code : ℕ) → IsDefined code → ¬ ProtectsExactly size code start len
