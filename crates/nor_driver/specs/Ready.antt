use Rattle.std.specs.Prelude.{◌≡◌, true}
use Rattle.nor_model.specs.Bus.{BusState}

abbrev pub StaysReady : (old new : BusState) → Type 0
StaysReady old new = old.polled_ready ≡ true → new.polled_ready ≡ true
