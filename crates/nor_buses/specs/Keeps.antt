-- Three effects on a chip and its erased sectors: nothing changes, a read stops, or one transaction is carried out.
use Rattle.std.specs.Prelude.{◌≡◌, ◌⊎◌, ◌||◌, ℕ, true, List, length}
use Rattle.nor_model.specs.Power.{PowerLost}
use Rattle.nor_model.specs.Step.{Step, done_of, wears}
use Rattle.nor_model.specs.Bus.{BusState}

pub record KeepsAll (old new : BusState) : Type 0 where
  pub chip : new.chip ≡ old.chip
  pub worn : (s : ℕ) → new.worn s ≡ old.worn s

-- Holds if the erased sectors are the same, and the chip is as it was or, on a bus that isn't steady, lost its power.
pub record StopsUnread (old new : BusState) : Type 0 where
  pub chip : (new.chip ≡ old.chip) ⊎ PowerLost old.chip new.chip
  pub worn : (s : ℕ) → new.worn s ≡ old.worn s
  pub unsent : old.steady ≡ true → new.chip ≡ old.chip

-- Holds if the chip changed as in one transaction that sent `out` and received `answer`.
pub record MakesStep (out answer : List ℕ) (old new : BusState) : Type 0 where
  pub step : Step old.chip out answer new.chip
  pub worn : (s : ℕ) → new.worn s ≡ (old.worn s || wears (done_of old.chip out (length answer)) s)
