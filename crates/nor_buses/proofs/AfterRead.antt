-- If reads leave the chip as it was and the next transaction stops, the stop has the same effect as without the reads.
use Rattle.std.proofs.Common.{◌≡◌, ◌∙◌, ◌||◌, ℕ, Bool, List, length, take, subst, ap}
use Rattle.nor_model.specs.Chip.{Chip}
use Rattle.nor_model.specs.Step.{Step, done_of, wears}
use Rattle.nor_model.specs.Bus.{BusState, AtStop}
use Rattle.nor_buses.specs.Keeps.{KeepsAll}

worn_after : (out : List ℕ) (replies : ℕ) (old mid : BusState) (worn : Bool) (s : ℕ) → KeepsAll old mid
    → worn ≡ (mid.worn s || wears (done_of mid.chip out replies) s)
    → worn ≡ (old.worn s || wears (done_of old.chip out replies) s)
worn_after out replies old mid worn s keeps is =
    subst (λ (chip : Chip). worn ≡ (mid.worn s || wears (done_of chip out replies) s)) keeps.chip is
    ∙ ap (λ (b : Bool). b || wears (done_of old.chip out replies) s) (keeps.worn s)

pub stopped_after : {out : List ℕ} {old mid new : BusState} → mid.steady ≡ old.steady → KeepsAll old mid
    → AtStop out mid new → AtStop out old new
stopped_after {out} {old} {mid} {new} steady keeps at = record {
  count = at.count;
  read = at.read;
  reached = at.reached;
  step = subst (λ (chip : Chip). Step chip (take at.count out) at.read at.reached) keeps.chip at.step;
  chip = at.chip;
  worn = λ s. worn_after (take at.count out) (length at.read) old mid (new.worn s) s keeps (at.worn s);
  none = λ is. at.none (steady ∙ is);
  unsent = λ is. at.unsent (steady ∙ is) ∙ keeps.chip;
}
