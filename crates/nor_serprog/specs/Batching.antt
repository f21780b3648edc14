-- Definitions for the contracts of `BatchingBus`, which can send a write enable with the page program after it.
use Rattle.std.specs.Prelude.{ℕ, List, [], Bool, true, false, Option}
use Rattle.nor_model.specs.Bus.{BusState}
use Rattle.nor_model.specs.Exchange.{Exchange}
use Rattle.nor_model.specs.PolledReady.{polled_ready_in}
use Rattle.nor_model.specs.Sent.{Sent, sent_in}
use Rattle.nor_serprog.specs.declared.batching.BatchingBus.{BatchingBus}
use Rattle.nor_serprog.specs.declared.link.Link.{Link}
use Rattle.nor_serprog.specs.declared.port.Port.{Ghosts}
use Rattle.nor_serprog.specs.declared.link.Failure.{Failure}
use Rattle.nor_serprog.specs.Modifying.{passed_by}
use Rattle.nor_serprog.specs.Link.{is_in_step}
use Rattle.nor_serprog.specs.Asked.{IsFramed}
use Rattle.nor_serprog.specs.Device.{PortState}
use Rattle.nor_serprog.specs.Enabled.{enabled}

abbrev pub link_of : {P C : Type 0} {over : Ghosts P C} → BatchingBus P C over → Link P C
link_of batching = batching.batch.link

abbrev pub port_in : {P C : Type 0} {over : Ghosts P C} → BatchingBus P C over → P
port_in batching = batching.batch.link.port

-- True if a write enable is held back: it is in the history, but was not sent yet.
abbrev pub waits_of : {P C : Type 0} {over : Ghosts P C} → BatchingBus P C over → Bool
waits_of batching = batching.batch.waits

abbrev pub history_of : {P C : Type 0} {over : Ghosts P C} → BatchingBus P C over → List Exchange
history_of batching = batching.history.exchanges

-- Holds if the calls of the port after `start`, and then the write enable that is held back, if any, send the frames of
-- the transactions in the history (`IsFramed`).
abbrev pub SendsFrames : {P C : Type 0} {over : Ghosts P C} → (start : List (List ℕ)) → BatchingBus P C over → Type 0
SendsFrames {over = over} start batching =
    IsFramed start (over.state batching.batch.link.port).asked (waits_of batching) (history_of batching)

abbrev pub sent_of : {P C : Type 0} {over : Ghosts P C} → BatchingBus P C over → Sent
sent_of batching = sent_in (history_of batching)

abbrev pub polled_ready_of : {P C : Type 0} {over : Ghosts P C} → BatchingBus P C over → Bool
polled_ready_of batching = polled_ready_in (history_of batching)

abbrev pub cause_of : {P C : Type 0} {over : Ghosts P C} → BatchingBus P C over → Option (Failure C)
cause_of batching = batching.cause

-- True if the link is in step. Otherwise a transaction sends nothing.
abbrev pub is_ready : {P C : Type 0} {over : Ghosts P C} → BatchingBus P C over → Bool
is_ready batching = is_in_step batching.batch.link

-- True if the chip may be of a further type (`has_further_types`).
abbrev pub has_further : {P C : Type 0} {over : Ghosts P C} → BatchingBus P C over → Bool
has_further batching = batching.further

-- The state of a bus over a port with the state `port`. If a write enable is held back and the programmer's chip is
-- idle, the latch of the bus's chip is set, because the write enable is in the history already. The bus isn't punctual,
-- because its transactions take different numbers of calls. It is unlimited, although it stops at long transactions.
abbrev pub over_batch : (waits further : Bool) → PortState → (history : List Exchange) → BusState
over_batch waits further port history = record {
  chip = enabled waits port.device.chip;
  left = 0;
  honest = port.honest;
  history = history;
  sent = sent_in history;
  passed = passed_by waits port.asked;
  allowances = [];
  worn = port.device.worn;
  steady = false;
  unlimited = true;
  longer = 0;
  punctual = false;
  polled_ready = polled_ready_in history;
  further = further;
}

abbrev pub serprog_state : {P C : Type 0} {over : Ghosts P C} → BatchingBus P C over → BusState
serprog_state {over = over} batching =
    over_batch batching.batch.waits batching.further (over.state batching.batch.link.port) (history_of batching)
