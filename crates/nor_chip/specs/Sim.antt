use Rattle.std.specs.Prelude.{◌≡◌, ◌&&◌, ◌||◌, ℕ, Bool, List, [], length, take, Option, None, Some, Result, true, false, slice_index_or, OnOk, OnErr}
use Rattle.std.specs.Option.{is_none}
use Rattle.nor_chip.specs.declared.sim.SimBus.{SimBus}
use Rattle.nor_model.specs.declared.bus.Stopped.{Stopped}
use Rattle.nor_model.specs.Chip.{Chip}
use Rattle.nor_chip.specs.Flash.{chip_of, IsWholeReply}
use Rattle.nor_model.specs.Power.{PowerLostWith}
use Rattle.nor_model.specs.Step.{Step, is_operation, done_of, wears}
use Rattle.nor_model.specs.Sent.{sent_in}
use Rattle.nor_model.specs.PolledReady.{polled_ready_in}
use Rattle.nor_model.specs.Bus.{BusState}

-- The state of a simulated bus, which is steady if and only if both `lose` and `tear` are set to `None`.
abbrev pub sim_state : SimBus → BusState
sim_state bus = record {
  chip = chip_of bus.flash;
  left = bus.left;
  honest = true;
  history = bus.history.exchanges;
  sent = sent_in bus.history.exchanges;
  passed = sent_in bus.history.exchanges;
  allowances = bus.history.allowances;
  worn = λ s. slice_index_or bus.worn s false;
  steady = is_none bus.fill && is_none bus.torn;
  unlimited = true;
  longer = 0;
  punctual = true;
  polled_ready = polled_ready_in bus.history.exchanges;
  further = false;
}

-- the value that `lose` set: the fill byte of the power failure at a stop, or `None` if the chip keeps its power
abbrev pub fill_of : SimBus → Option ℕ
fill_of bus = bus.fill

-- the value that `tear` set: at most this number of bytes is sent at a stop, and no byte if the value is `None`
abbrev pub torn_of : SimBus → Option ℕ
torn_of bus = bus.torn

-- the number of polls that show BUSY after each operation (`Delays`)
abbrev pub pace_of : SimBus → ℕ
pace_of bus = bus.flash.each

abbrev pub TornTo : (torn : Option ℕ) → (out : List ℕ) → (old new : Chip) → Type 0
TornTo None out old new = new ≡ old
TornTo (Some count) out old new = Step old (take count out) [] new

abbrev pub LostTo : (fill : Option ℕ) → (old new : Chip) → Type 0
LostTo None old new = new ≡ old
LostTo (Some fill) old new = PowerLostWith fill old new

pub record KeepsBus (old new : SimBus) : Type 0 where
  pub fill : fill_of new ≡ fill_of old
  pub torn : torn_of new ≡ torn_of old
  pub pace : pace_of new ≡ pace_of old
  pub left : new.left ≡ old.left
  pub history : new.history ≡ old.history

abbrev pub WornTo : (torn : Option ℕ) → (out : List ℕ) → Chip → (old new : ℕ → Bool) → Type 0
WornTo None out chip old new = (s : ℕ) → new s ≡ old s
WornTo (Some count) out chip old new = (s : ℕ) → new s ≡ (old s || wears (done_of chip (take count out) 0) s)

pub record TearsOff (torn fill : Option ℕ) (out : List ℕ) (old new : Chip) : Type 0 where
  pub reached : Chip
  pub torn_off : TornTo torn out old reached
  pub lost : LostTo fill reached new

-- Holds if a transaction that turns `old` into `new` has the effects below, which a bus's contract doesn't determine.
pub record Simulates (out answer : List ℕ) (outcome : Result Unit Stopped) (old new : SimBus) : Type 0 where
  pub fill : fill_of new ≡ fill_of old
  pub torn : torn_of new ≡ torn_of old
  pub pace : pace_of new ≡ pace_of old
  pub paced : OnOk outcome
      (is_operation (done_of (chip_of old.flash) out (length answer)) ≡ true → new.flash.busy ≡ pace_of old)
  pub replied : OnOk outcome (IsWholeReply out answer (chip_of old.flash))
  pub cut : OnErr outcome
      (TearsOff (torn_of old) (fill_of old) out (chip_of old.flash) (chip_of new.flash))
  pub worn : OnErr outcome
      (WornTo (torn_of old) out (chip_of old.flash) (sim_state old).worn (sim_state new).worn)
