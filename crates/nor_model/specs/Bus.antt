-- The contract of a bus. The contract sees a bus as one value, its state.
use Rattle.std.specs.Prelude.{◌≡◌, ◌≤◌, ◌+◌, ◌++◌, ◌⊎◌, ◌||◌, ℕ, Bool, true, false, List, [], ◌∷◌, length, take, Result, OnOk, OnErr}
use Rattle.std.proofs.Common.{refl}
use Rattle.nor_model.specs.declared.running.Running.TheVariants.{Unknown}
use Rattle.nor_model.specs.Chip.{Chip}
use Rattle.nor_model.specs.Power.{PowerLost}
use Rattle.nor_model.specs.Exchange.{Exchange}
use Rattle.nor_model.specs.History.{Continues, exchange_of}
use Rattle.nor_model.specs.Sent.{Sent, sent_in, with_sent}
use Rattle.nor_model.specs.Passed.{Passes}
use Rattle.nor_model.specs.PolledReady.{polled_ready_after, polled_ready_in}
use Rattle.nor_model.specs.declared.bus.Stopped.{Stopped}
use Rattle.nor_model.specs.Step.{Step, done_of, wears}

pub record BusState : Type 0 where
  pub chip : Chip
  -- How many transactions a well-behaved, punctual bus will still carry out unless `allow` is called. Code can't read
  -- this number.
  pub left : ℕ
  -- Whether the bus is well-behaved. The trait `Bus` explains this and `steady`, `unlimited`, `longer` and `punctual`.
  pub honest : Bool
  -- All transactions that the bus was asked to carry out, each with its reply or stop, the last one first.
  pub history : List Exchange
  -- The bytes of each transaction that the bus was asked to carry out and that may modify a chip, the last one first.
  pub sent : Sent
  -- The transactions that may modify a chip and that were passed on below all layers, for example to a port, the last
  -- one first. A bus that wraps another bus has those of that bus. A bus that doesn't say what it passes on has none.
  pub passed : Sent
  pub allowances : List ℕ
  -- The sectors that the chip of a well-behaved bus has erased so far, over this bus.
  pub worn : ℕ → Bool
  pub steady : Bool
  pub unlimited : Bool
  pub longer : ℕ
  -- Whether the bus is punctual. Comments that count transactions are about punctual buses, even if they don't say so.
  pub punctual : Bool
  -- Whether the last poll that received at least one reply byte showed that the chip is ready.
  pub polled_ready : Bool
  -- Whether the chip may be of a type in `further_chips` (nor_probe). Only programs for real chips identify these.
  pub further : Bool

pub record SameNature (old new : BusState) : Type 0 where
  pub honest : new.honest ≡ old.honest
  pub steady : new.steady ≡ old.steady
  pub unlimited : new.unlimited ≡ old.unlimited
  pub longer : new.longer ≡ old.longer
  pub punctual : new.punctual ≡ old.punctual
  pub further : new.further ≡ old.further
  pub config : old.honest ≡ true → new.chip.config ≡ old.chip.config

-- Holds if `new.history` continues `old.history`, and those of the later transactions that may modify a chip, and no
-- others, were added to `sent`.
pub record AddsSent (old new : BusState) : Type 0 where
  pub later : List Exchange
  pub is : new.history ≡ later ++ old.history
  pub sent : new.sent ≡ sent_in later ++ old.sent

-- Holds for the states before and after any sequence of transactions on any bus.
pub record KeepsNature (old new : BusState) : Type 0 where
  pub honest : new.honest ≡ old.honest
  pub steady : new.steady ≡ old.steady
  pub unlimited : new.unlimited ≡ old.unlimited
  pub longer : new.longer ≡ old.longer
  pub punctual : new.punctual ≡ old.punctual
  pub further : new.further ≡ old.further
  pub config : old.honest ≡ true → new.chip.config ≡ old.chip.config
  pub history : Continues old.history new.history
  pub adds_sent : AddsSent old new
  pub allowances : new.allowances ≡ old.allowances

-- Holds if the bus is well-behaved and takes a transaction that sends `out` and reads `replies` bytes.
pub record IsHonestFor (out : List ℕ) (replies : ℕ) (bus : BusState) : Type 0 where
  pub honest : bus.honest ≡ true
  pub fits : (bus.unlimited ≡ true) ⊎ ((length out ≤ 260) × (replies ≤ 4096 + bus.longer))

-- Holds after a transaction that ended with `outcome` and left `answer` in the buffer, on any bus, even a faulty one.
pub record Records (out answer : List ℕ) (outcome : Result Unit Stopped) (old new : BusState) : Type 0 where
  pub history : new.history ≡ exchange_of out answer outcome ∷ old.history
  pub sent : new.sent ≡ with_sent out old.sent
  pub passed : Passes out old.passed new.passed
  pub allowances : new.allowances ≡ old.allowances
  pub returned : OnOk outcome (new.polled_ready ≡ polled_ready_after out answer old.polled_ready)
  pub stopped : OnErr outcome (new.polled_ready ≡ old.polled_ready)

-- Holds if a stop at the transaction `out` can take the bus from `old` to `new`. The chip carried out the first `count`
-- bytes as a whole transaction with the reply `read`, and then may have lost its power. A steady bus sent no byte.
pub record AtStop (out : List ℕ) (old new : BusState) : Type 0 where
  pub count : ℕ
  pub read : List ℕ
  pub reached : Chip
  pub step : Step old.chip (take count out) read reached
  pub chip : (new.chip ≡ reached) ⊎ PowerLost reached new.chip
  pub worn : (s : ℕ) → new.worn s ≡ (old.worn s || wears (done_of old.chip (take count out) (length read)) s)
  pub none : old.steady ≡ true → count ≡ 0
  pub unsent : old.steady ≡ true → new.chip ≡ old.chip

pub record Stops (out : List ℕ) (old new : BusState) : Type 0 where
  pub none_left : old.punctual ≡ true → old.left ≡ 0
  pub left : old.punctual ≡ true → new.left ≡ old.left
  pub at_stop : AtStop out old new

-- Holds if the bus carried out the transaction: the chip made one step.
pub record Carries (out answer : List ℕ) (old new : BusState) : Type 0 where
  pub left : old.punctual ≡ true → old.left ≡ new.left + 1
  pub step : Step old.chip out answer new.chip
  pub worn : (s : ℕ) → new.worn s ≡ (old.worn s || wears (done_of old.chip out (length answer)) s)

-- Holds after a transaction that sends `out` and changes the reply buffer from `before` to `answer`. The fields except
-- `nature` and `records` are about well-behaved buses that take a transaction of this length.
pub record Transfers (out before answer : List ℕ) (outcome : Result Unit Stopped) (old new : BusState) : Type 0 where
  pub nature : SameNature old new
  pub stops : IsHonestFor out (length before) old → OnErr outcome (Stops out old new)
  pub unread : IsHonestFor out (length before) old → old.punctual ≡ true → OnErr outcome (answer ≡ before)
  pub carries : IsHonestFor out (length before) old → OnOk outcome (Carries out answer old new)
  pub records : Records out answer outcome old new

pub record Allows (n : ℕ) (old new : BusState) : Type 0 where
  pub chip : new.chip ≡ old.chip
  pub left : old.honest ≡ true → old.punctual ≡ true → new.left ≡ n
  pub nature : SameNature old new
  pub history : new.history ≡ old.history
  pub sent : new.sent ≡ old.sent
  pub allowances : new.allowances ≡ n ∷ old.allowances
  pub polled_ready : new.polled_ready ≡ old.polled_ready
  pub worn : (s : ℕ) → new.worn s ≡ old.worn s

-- An arbitrary chip, for a bus about whose chip nothing is known.
abbrev pub unknown_chip : Chip
unknown_chip = record {
  config = record {
    id = [];
    size = 65536;
    kinds = record { k32 = false; k64 = false };
    scheme = false;
    unique = [];
    sfdp = [];
    sized = refl;
  };
  bytes = λ a. 0;
  kept = record { one = 0; two = 0 };
  latch = false;
  busy = 0;
  running = Unknown;
}

-- The state of a bus that isn't well-behaved and of which only the history is known.
abbrev pub unknown_bus : List Exchange → BusState
unknown_bus history = record {
  chip = unknown_chip;
  left = 0;
  honest = false;
  history = history;
  sent = sent_in history;
  passed = [];
  allowances = [];
  worn = λ s. false;
  steady = false;
  unlimited = false;
  longer = 0;
  punctual = false;
  polled_ready = polled_ready_in history;
  further = false;
}
