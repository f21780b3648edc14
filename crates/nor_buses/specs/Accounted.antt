-- The field and the state of an `Accounted`.
use Rattle.nor_model.specs.Bus.{BusState}
use Rattle.nor_model.specs.declared.bus.Bus.{Ghosts}
use Rattle.nor_buses.specs.declared.accounted.Accounted.{Accounted}

abbrev pub accounted_by : {B : Type 0} {over : Ghosts B} → Accounted B over → B
accounted_by accounted = accounted.bus

abbrev pub accounted_state : {B : Type 0} {over : Ghosts B} → Accounted B over → BusState
accounted_state {over = over} accounted = over.state (accounted_by accounted)
