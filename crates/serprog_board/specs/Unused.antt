-- A bus that was asked for no transaction yet.
use Rattle.std.specs.Prelude.{◌≡◌, []}
use Rattle.nor_model.specs.Bus.{BusState}

pub record IsUnused (state : BusState) : Type 0 where
  pub history : state.history ≡ []
  pub sent : state.sent ≡ []
