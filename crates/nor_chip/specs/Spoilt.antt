use Rattle.std.specs.Prelude.{◌≡◌, ◌<◌, ◌+◌, ◌-◌, ◌^◌, ◌==◌, ◌&&◌, ℕ, false, List, length, Option, None, Some, Result, Ok, Err, OnOk, OnErr, IsOk, IfSome, IfNone, replicate, min, nat_lt, nat_le, bit_and, bit_or, slice_index, if◌then◌else◌, true}
use Rattle.nor_chip.specs.declared.spoilt.SpoiltBus.{SpoiltBus}
use Rattle.nor_chip.specs.declared.spoilt.Spoil.{Spoil}
use Rattle.nor_chip.specs.declared.spoilt.Spoil.TheVariants.{Fill, BusyFrom, Drop, Low}
use Rattle.nor_model.specs.declared.bus.Stopped.{Stopped}
use Rattle.nor_model.specs.Exchange.{Exchange}
use Rattle.nor_model.specs.Sent.{sent_in}
use Rattle.nor_model.specs.PolledReady.{is_poll, polled_ready_in}
use Rattle.nor_model.specs.Bus.{BusState, IsHonestFor, Stops, Carries}

abbrev pub bus_in : {B : Type 0} → SpoiltBus B → B
bus_in bus = bus.bus

abbrev pub spoil_of : {B : Type 0} → SpoiltBus B → Spoil
spoil_of bus = bus.spoil

abbrev pub history_of : {B : Type 0} → SpoiltBus B → List Exchange
history_of bus = bus.history.exchanges

abbrev pub succeeded_of : {B : Type 0} → SpoiltBus B → ℕ
succeeded_of bus = bus.sent

-- The state of a faulty bus: that of the inner bus, except that it isn't well-behaved, and that its history, and the
-- fields that follow from it, are those of the faulty bus. Its history includes dropped transactions.
abbrev pub spoilt_state : {B : Type 0} → (B → BusState) → SpoiltBus B → BusState
spoilt_state state bus = record (state bus.bus) {
  honest = false;
  history = history_of bus;
  sent = sent_in (history_of bus);
  allowances = bus.history.allowances;
  polled_ready = polled_ready_in (history_of bus);
}

-- the value of each reply byte if the bus drops the transaction after `sent` successful ones, otherwise `None`
abbrev pub withheld : Spoil → ℕ → Option ℕ
withheld (Fill byte) sent = Some byte
withheld (BusyFrom first) sent = None
withheld (Drop number) sent = if sent + 1 == number then Some 255 else None
withheld (Low bit) sent = None

abbrev pub withheld_of : {B : Type 0} → SpoiltBus B → Option ℕ
withheld_of bus = withheld (spoil_of bus) (succeeded_of bus)

abbrev pub spoilt_byte : Spoil → ℕ → List ℕ → ℕ → ℕ
spoilt_byte (Fill fill) sent out byte = byte
spoilt_byte (BusyFrom first) sent out byte = if nat_le first (sent + 1) && is_poll out then bit_or byte 1 else byte
spoilt_byte (Drop number) sent out byte = byte
spoilt_byte (Low bit) sent out byte = if nat_lt bit 8 then bit_and byte (255 - 2 ^ bit) else byte

-- Holds if the transaction was dropped: it succeeded, the inner bus is as it was, and each reply byte is `byte`.
pub record IsWithheld {B : Type 0} (byte : ℕ) (asked answer : List ℕ) (outcome : Result Unit Stopped)
    (old new : B) : Type 0 where
  pub answered : IsOk outcome
  pub inner : new ≡ old
  pub replies : answer ≡ replicate (length asked) byte

-- Holds if each byte of `answer` is `byte_for` of the byte at the same index of `replied`. A well-behaved inner bus
-- that takes a transaction of this length replied with `replied`.
pub record IsPassedOn (byte_for : ℕ → ℕ) (out asked answer : List ℕ) (old new : BusState) : Type 0 where
  pub replied : List ℕ
  pub as_many : length answer ≡ length replied
  pub replies : (i : ℕ) → i < length answer → slice_index answer i ≡ byte_for (slice_index replied i)
  pub inner : IsHonestFor out (length asked) old → Carries out replied old new

abbrev pub GoesThrough : (ℕ → ℕ) → (out asked answer : List ℕ) → Result Unit Stopped → (old new : BusState) → Type 0
GoesThrough byte_for out asked answer (Ok done) old new = IsPassedOn byte_for out asked answer old new
GoesThrough byte_for out asked answer (Err stopped) old new =
    IsHonestFor out (length asked) old → (old.punctual ≡ true → answer ≡ asked) × Stops out old new

pub record Spoils {B : Type 0} (state : B → BusState) (out asked answer : List ℕ) (outcome : Result Unit Stopped)
    (old new : SpoiltBus B) : Type 0 where
  pub spoil : spoil_of new ≡ spoil_of old
  pub counted : OnOk outcome (succeeded_of new ≡ min (succeeded_of old + 1) (2 ^ 64 - 1))
  pub uncounted : OnErr outcome (succeeded_of new ≡ succeeded_of old)
  pub withheld : IfSome (withheld_of old) (λ byte. IsWithheld byte asked answer outcome (bus_in old) (bus_in new))
  pub passed_on : IfNone (withheld_of old)
      (GoesThrough (spoilt_byte (spoil_of old) (succeeded_of old) out) out asked answer outcome
      (state (bus_in old)) (state (bus_in new)))
