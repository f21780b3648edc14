use Rattle.std.proofs.Common.{◌≡◌, ◌∷◌, ℕ, List}
use Rattle.std.specs.Prelude.{Result, Ok, Err, OnOk, OnErr}
use Rattle.nor_model.specs.declared.bus.Stopped.{Stopped}
use Rattle.nor_model.specs.History.{EndsStopped, replied}
use Rattle.nor_model.specs.Sent.{RecordsSent, with_sent}
use Rattle.nor_model.specs.Bus.{BusState, SameNature, KeepsNature, Records}
use Rattle.nor_model.proofs.Nature.{nature_by}
use Rattle.nor_model.proofs.RecordedSent.{records_sent}

pub record Sends (out : List ℕ) (old new : BusState) : Type 0 where
  pub nature : KeepsNature old new
  pub sent : RecordsSent out old.sent new.sent
  pub added : new.sent ≡ with_sent out old.sent

pub sends_by : {out answer : List ℕ} {outcome : Result Unit Stopped} {old new : BusState} → SameNature old new
    → Records out answer outcome old new → Sends out old new
sends_by same records = record {
  nature = nature_by same records;
  sent = records_sent records.sent;
  added = records.sent;
}

pub answered_by : (outcome : Result Unit Stopped) (out answer : List ℕ) (old new : BusState)
    → Records out answer outcome old new → OnOk outcome (new.history ≡ replied out answer ∷ old.history)
answered_by (Ok done) out answer old new records = records.history
answered_by (Err stop) out answer old new records = tt

pub stopped_by : (outcome : Result Unit Stopped) (out answer : List ℕ) (old new : BusState)
    → Records out answer outcome old new → OnErr outcome (EndsStopped new.history)
stopped_by (Ok done) out answer old new records = tt
stopped_by (Err stop) out answer old new records = record { out = out; earlier = old.history; is = records.history }
