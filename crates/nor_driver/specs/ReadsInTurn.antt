use Rattle.std.specs.Prelude.{◌≡◌, ℕ, true}
use Rattle.nor_model.specs.Bus.{BusState, KeepsNature}
use Rattle.nor_driver.specs.OnlyReads.{Rested, Spent}
use Rattle.nor_driver.specs.Ready.{StaysReady}

-- Holds after `reads` successive reads that succeeded, if none of them was a poll that showed BUSY.
pub record HasOnlyRead (reads : ℕ) (old new : BusState) : Type 0 where
  pub nature : KeepsNature old new
  pub same_sent : new.sent ≡ old.sent
  pub polled_ready : StaysReady old new
  pub rested : old.honest ≡ true → Rested old new
  pub sent : old.honest ≡ true → Spent reads old new
