-- What a bus passes on below all layers, for example to a port, of the transactions that may modify a chip.
use Rattle.std.specs.Prelude.{◌≡◌, ◌++◌, ◌⊎◌, ℕ, true, List, [], ◌∷◌, Some, All}
use Rattle.nor_model.specs.Sent.{Sent, begins_program, programs_at, with_sent}

-- Holds if `part` is a page program (02h), and `out` programs each of its bytes, if it has any, at the same address.
pub record IsProgramPart (out part : List ℕ) : Type 0 where
  pub program : begins_program part ≡ true
  pub bytes : (a byte : ℕ) → programs_at part a ≡ Some byte → programs_at out a ≡ Some byte

abbrev pub IsStepOf : (out step : List ℕ) → Type 0
IsStepOf out step = (step ≡ 0x06 ∷ []) ⊎ IsProgramPart out step

-- Holds if `out` is a page program, and only parts of it and write enables were passed on.
pub record PassesParts (out : List ℕ) (old new : Sent) : Type 0 where
  pub program : begins_program out ≡ true
  pub later : Sent
  pub is : new ≡ later ++ old
  pub steps : All (λ (step : List ℕ). IsStepOf out step) later

-- Holds if, for the transaction `out`, nothing was passed on that may modify a chip, or only `out`, once, or only parts
-- of this page program with their write enables.
abbrev pub Passes : (out : List ℕ) → (old new : Sent) → Type 0
Passes out old new = (new ≡ old) ⊎ ((new ≡ with_sent out old) ⊎ PassesParts out old new)

pub record EndsPassing (out : List ℕ) (Earlier : Sent → Type 0) (passed : Sent) : Type 0 where
  pub before : Sent
  pub earlier : Earlier before
  pub passes : Passes out before passed

-- Holds if `passed` is what was passed on for the transactions `sent`, in order (`Passes`).
abbrev pub ArePassedOn : (sent passed : Sent) → Type 0
ArePassedOn [] passed = passed ≡ []
ArePassedOn (out ∷ earlier) passed = EndsPassing out (ArePassedOn earlier) passed
