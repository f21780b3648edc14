-- Definitions for the contracts of `SerprogBus`.
use Rattle.std.specs.Prelude.{◌/◌, Bool, true, false, List, [], Option}
use Rattle.nor_model.specs.Bus.{BusState}
use Rattle.nor_model.specs.Exchange.{Exchange}
use Rattle.nor_model.specs.PolledReady.{polled_ready_in}
use Rattle.nor_model.specs.Sent.{Sent, sent_in}
use Rattle.nor_serprog.specs.declared.bus.SerprogBus.{SerprogBus}
use Rattle.nor_serprog.specs.declared.link.Link.{Link}
use Rattle.nor_serprog.specs.declared.link.Failure.{Failure}
use Rattle.nor_serprog.specs.declared.port.Port.{Ghosts}
use Rattle.nor_serprog.specs.Device.{PortState}
use Rattle.nor_serprog.specs.Link.{is_in_step}
use Rattle.nor_serprog.specs.Modifying.{modifying_in}

-- The state of a bus over a port with the state `port`. A transaction takes three calls of the port, which send the
-- frame, receive ACK and receive the reply. The bus is not `steady`, because the port can fail in the middle of a
-- transaction, and not `unlimited`, because it is punctual but stops at transactions that are too long.
abbrev pub over_port : (further : Bool) → PortState → (history : List Exchange) → BusState
over_port further port history = record {
  chip = port.device.chip;
  left = port.left / 3;
  honest = port.honest;
  history = history;
  sent = sent_in history;
  passed = modifying_in port.asked;
  allowances = [];
  worn = port.device.worn;
  steady = false;
  unlimited = false;
  longer = 0;
  punctual = true;
  polled_ready = polled_ready_in history;
  further = further;
}

abbrev pub link_of : {P C : Type 0} {over : Ghosts P C} → SerprogBus P C over → Link P C
link_of bus = bus.link

abbrev pub port_in : {P C : Type 0} {over : Ghosts P C} → SerprogBus P C over → P
port_in bus = bus.link.port

abbrev pub history_of : {P C : Type 0} {over : Ghosts P C} → SerprogBus P C over → List Exchange
history_of bus = bus.history.exchanges

abbrev pub sent_of : {P C : Type 0} {over : Ghosts P C} → SerprogBus P C over → Sent
sent_of bus = sent_in (history_of bus)

abbrev pub polled_ready_of : {P C : Type 0} {over : Ghosts P C} → SerprogBus P C over → Bool
polled_ready_of bus = polled_ready_in (history_of bus)

abbrev pub cause_of : {P C : Type 0} {over : Ghosts P C} → SerprogBus P C over → Option (Failure C)
cause_of bus = bus.cause

-- True if the chip may be of a further type (`has_further_types`).
abbrev pub has_further : {P C : Type 0} {over : Ghosts P C} → SerprogBus P C over → Bool
has_further bus = bus.further

abbrev pub is_ready : {P C : Type 0} {over : Ghosts P C} → SerprogBus P C over → Bool
is_ready bus = is_in_step bus.link

abbrev pub serprog_state : {P C : Type 0} {over : Ghosts P C} → SerprogBus P C over → BusState
serprog_state {over = over} bus = over_port bus.further (over.state bus.link.port) (history_of bus)
