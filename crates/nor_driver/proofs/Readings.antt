use Rattle.std.proofs.Common.{◌≡◌, ◌<◌, ◌≤◌, ◌+◌, ℕ, true, false, List, [], ◌∷◌, length, refl, ap, subst, arith, inl, inr}
use Rattle.std.specs.Prelude.{Result, Ok, Err, OnOk, OnErr, slice_index}
use Rattle.std.proofs.lemmas.Bool.Decides.{eqb_tells}
use Rattle.nor_model.specs.declared.config.Config.{Config}
use Rattle.nor_model.specs.declared.command.Command.{Command}
use Rattle.nor_model.specs.declared.command.Command.TheVariants.{Ignored}
use Rattle.nor_model.specs.Chip.{Chip}
use Rattle.nor_model.specs.Step.{Does, is_operation, done_of, reply_byte}
use Rattle.nor_model.specs.Bus.{BusState, IsHonestFor, Stops, Carries, Records}
use Rattle.nor_model.specs.PolledReady.{is_poll}
use Rattle.nor_model.specs.History.{replied}
use Rattle.nor_model.specs.declared.bus.Stopped.{Stopped}
use Rattle.nor_model.proofs.Steps.{all_determined}
use Rattle.nor_driver.specs.OnlyReads.{Rested, Spent, OnlyReadsHonest, OnlyReads, HasStopped}
use Rattle.nor_driver.specs.Reads.{changes_nothing, IsReading, HasRead, Replies}
use Rattle.nor_driver.proofs.Sends.{Sends, stopped_by}
use Rattle.nor_driver.proofs.Cuts.{stays_then, unchanged_none, unchanged_then, unchanged_stays}
pub use Rattle.nor_driver.proofs.Torn.{Wore, no_operation}
use Rattle.nor_driver.proofs.Torn.{honest_reads_at_stop}

nothing_done : (command : Command) (sent answer : List ℕ) (old new : Chip) → changes_nothing command ≡ true
    → Does command sent old answer new
    → (is_operation command ≡ false) × (new.busy ≡ old.busy) × (new.latch ≡ old.latch)
nothing_done command sent answer old new is does = grind arith

carried_by : (out answer : List ℕ) (old new : BusState)
    → changes_nothing (done_of old.chip out (length answer)) ≡ true → Carries out answer old new → HasRead old new
carried_by out answer old new is carries =
    let command = done_of old.chip out (length answer) in
    let none = nothing_done command _ _ old.chip new.chip is carries.step in
    grind (arith, no_operation command _ _ old new none.0 carries.step carries.worn)

carried_reading : (out answer : List ℕ) (old new : BusState) → IsReading out → Carries out answer old new
    → HasRead old new
carried_reading out answer old new is carries =
    carried_by out answer old new (grind (arith, is.reading old.chip.config (length answer))) carries

carried_reply : (out answer : List ℕ) (old new : BusState) → IsReading out → Carries out answer old new → (i : ℕ)
    → i < length answer → slice_index answer i ≡ reply_byte old.chip (done_of old.chip out (length answer)) i
carried_reply out answer old new is carries =
    let byte : ℕ → ℕ = reply_byte old.chip (done_of old.chip out (length answer)) in
    let P : List ℕ → Type 0 = λ bytes. (i : ℕ) → i < length bytes → slice_index bytes i ≡ byte i in
    subst P (all_determined old.chip.config out answer (is.known old.chip.config (length answer))) carries.step.replies

pub carried_ignored : (out answer : List ℕ) (old new : BusState) → done_of old.chip out (length answer) ≡ Ignored
    → Carries out answer old new → HasRead old new
carried_ignored out answer old new ignored carries = carried_by out answer old new (ap changes_nothing ignored) carries

pub honest_reads_by : (old new : BusState) (most : ℕ) → Rested old new → Spent most old new
    → OnlyReadsHonest most old new
honest_reads_by old new most rested count = search (arith, unchanged_stays old new rested.unchanged)

pub honest_reads_then : (m n : ℕ) (old mid new : BusState) → mid.steady ≡ old.steady → mid.punctual ≡ old.punctual
    → OnlyReadsHonest m old mid → OnlyReadsHonest n mid new → OnlyReadsHonest (m + n) old new
honest_reads_then m n old mid new steady punctual first second =
    grind (arith, stays_then old mid new steady first.stays second.stays)

pub honest_reads_more : (old new : BusState) (m n : ℕ) → m ≤ n → OnlyReadsHonest m old new → OnlyReadsHonest n old new
honest_reads_more old new m n fits honest_reads = search arith

pub rested_then : (old mid new : BusState) → Rested old mid → Rested mid new → Rested old new
rested_then old mid new first second = grind (arith, unchanged_then old mid new first.unchanged second.unchanged)

pub rested_none : (bus : BusState) → Rested bus bus
rested_none bus = search (unchanged_none bus)

honest_reads_once : {T E : Type 0} (outcome : Result T E) (out answer : List ℕ) (old new : BusState) → IsReading out
    → OnErr outcome (Stops out old new) → OnOk outcome (Carries out answer old new) → OnlyReadsHonest 1 old new
honest_reads_once (Ok done) out answer old new is stops carries =
    let read = carried_reading out answer old new is carries in
    honest_reads_by old new 1 read.rested read.count
honest_reads_once (Err stopped) out answer old new is stops carries = honest_reads_at_stop out old new 1 is.quiet stops

pub poll_fits : (bus : BusState) → bus.honest ≡ true → IsHonestFor (5 ∷ []) 1 bus
poll_fits bus honest = record { honest = honest; fits = inr (omega arith, omega arith) }

pub read_fits : (out asked : List ℕ) (bus : BusState) → IsReading out → length asked ≤ 4096 → bus.honest ≡ true
    → IsHonestFor out (length asked) bus
read_fits out asked bus is short honest = record { honest = honest; fits = inr (is.short, omega (arith, short)) }

pub read_leaves : {T E : Type 0} (outcome : Result T E) (out answer : List ℕ) (old new : BusState) → IsReading out
    → Sends out old new → (old.honest ≡ true → OnErr outcome (Stops out old new))
    → (old.honest ≡ true → OnOk outcome (Carries out answer old new)) → OnlyReads 1 old new
read_leaves outcome out answer old new is sends stops carries = record {
  nature = sends.nature;
  sent = sends.sent.quiet is.quiet;
  honest_reads = λ honest. honest_reads_once outcome out answer old new is (stops honest) (carries honest);
}

pub read_does : {T E : Type 0} (outcome : Result T E) (out answer : List ℕ) (old new : BusState) → IsReading out
    → OnOk outcome (new.history ≡ replied out answer ∷ old.history)
    → (old.honest ≡ true → OnOk outcome (Carries out answer old new)) → OnOk outcome (Replies out old new answer)
read_does (Ok done) out answer old new is history carries = record {
  history = history;
  read = λ honest. carried_reading out answer old new is (carries honest);
  replied = λ honest. carried_reply out answer old new is (carries honest);
}
read_does (Err stopped) out answer old new is history carries = tt

pub read_fails : (outcome : Result Unit Stopped) (out answer : List ℕ) (old new : BusState)
    → Records out answer outcome old new → (old.honest ≡ true → OnErr outcome (Stops out old new))
    → OnErr outcome (HasStopped 1 old new)
read_fails (Ok done) out answer old new records stops = tt
read_fails (Err stop) out answer old new records stops = record {
  last = stopped_by (Err stop) out answer old new records;
  ran_out = λ honest punctual. let stop = stops honest in record {
    none_left = omega (arith, stop.none_left punctual, stop.left punctual);
    below = omega (arith, stop.none_left punctual);
  };
}

no_poll : (config : Config) (out : List ℕ) → IsReading out → is_poll out ≡ false
no_poll config (opcode ∷ []) is = elim (eqb_tells opcode 5) [
  | inl five ↦ absurd (let off = is.reading config 0 in cc)
  | inr other ↦ other.0
]
no_poll config _ is = refl

pub read_keeps_polled_ready : (outcome : Result Unit Stopped) (out answer : List ℕ) (old new : BusState) → IsReading out
    → Records out answer outcome old new → new.polled_ready ≡ old.polled_ready
read_keeps_polled_ready outcome out answer old new is records =
    grind (arith, no_poll old.chip.config out is, records.returned, records.stopped)
