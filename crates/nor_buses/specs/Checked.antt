-- The fields and the state of a `CheckedStatus`. This bus checks IDs, status registers and status writes.
use Rattle.std.specs.Prelude.{ℕ, Bool, List, Option}
use Rattle.nor_model.specs.Bus.{BusState}
use Rattle.nor_buses.specs.ReadsAs.{beside}
use Rattle.nor_model.specs.Exchange.{Exchange}
use Rattle.nor_model.specs.declared.bus.Bus.{Ghosts}
use Rattle.nor_buses.specs.declared.status.CheckedStatus.{CheckedStatus}
use Rattle.nor_buses.specs.declared.known.CheckFault.{CheckFault}
use Rattle.nor_buses.specs.declared.known.Known.{Known}

abbrev pub bus_of : {B : Type 0} {over : Ghosts B} → CheckedStatus B over → B
bus_of checked = checked.bus

abbrev pub inner_state : {B : Type 0} {over : Ghosts B} → CheckedStatus B over → BusState
inner_state {over = over} checked = over.state (bus_of checked)

abbrev pub known_of : {B : Type 0} {over : Ghosts B} → CheckedStatus B over → Known
known_of checked = checked.known

abbrev pub has_begun : {B : Type 0} {over : Ghosts B} → CheckedStatus B over → Bool
has_begun checked = checked.known.is_changing

abbrev pub written_of : {B : Type 0} {over : Ghosts B} → CheckedStatus B over → Option (List ℕ)
written_of checked = checked.known.written

abbrev pub locks_of : {B : Type 0} {over : Ghosts B} → CheckedStatus B over → Bool
locks_of checked = checked.known.locks

abbrev pub check_fault_of : {B : Type 0} {over : Ghosts B} → CheckedStatus B over → Option CheckFault
check_fault_of checked = checked.fault

abbrev pub history_of : {B : Type 0} {over : Ghosts B} → CheckedStatus B over → List Exchange
history_of checked = checked.history.exchanges

-- The state of a `CheckedStatus`. A refused modifying command is in its history, so this command counts as sent.
abbrev pub checked_state : {B : Type 0} {over : Ghosts B} → CheckedStatus B over → BusState
checked_state checked = beside (inner_state checked) (history_of checked)
