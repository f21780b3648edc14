-- Lemmas: polls of a ready chip, reads of status 2 and reads of the ID leave the chip as it was.
use Rattle.std.proofs.Common.{◌≡◌, ◌∙◌, ◌⊎◌, ◌<◌, ◌≤◌, ℕ, zero, suc, Bool, true, false, List, [], ◌∷◌, length, take, refl, sym, ap, subst, arith, inl, inr}
use Rattle.std.specs.Prelude.{◌+◌, ◌*◌, ◌-◌, ◌%◌, ◌==◌, ◌||◌, slice_index, slice_set, if◌then◌else◌}
use Rattle.std.proofs.Math.Bool.{or-false}
use Rattle.std.proofs.lemmas.Bool.{eqb-true}
use Rattle.nor_model.specs.Chip.{Chip, status1_of}
use Rattle.nor_model.specs.Power.{PowerLost}
use Rattle.nor_model.specs.Step.{Step, done_of, wears}
use Rattle.nor_model.specs.Bus.{BusState, SameNature, IsHonestFor, AtStop}
use Rattle.nor_buses.specs.Keeps.{KeepsAll, StopsUnread, MakesStep}
use Rattle.nor_buses.proofs.ReadsKeep.{same_chip, read_made, stops_then, keeps_then}

pub fits_short : {out : List ℕ} {n : ℕ} {state : BusState} → length out ≤ 260 → n ≤ 4096 → state.honest ≡ true
    → IsHonestFor out n state
fits_short sends reads honest = record { honest = honest; fits = inr (sends, omega (arith, reads)) }

ready_by : (idle latch : Bool) (one : ℕ)
    → (4 * one + (if latch then 2 else 0) + (if idle then 0 else 1)) % 2 ≡ 0 → idle ≡ true
ready_by true latch one even = refl
ready_by false true one even = let odd : (4 * one + 2 + 1) % 2 ≡ 0 = even in absurd (omega (arith, odd))
ready_by false false one even = let odd : (4 * one + 0 + 1) % 2 ≡ 0 = even in absurd (omega (arith, odd))

pub ready_shown : {status : ℕ} {old new : BusState} → MakesStep (0x05 ∷ []) (status ∷ []) old new → status % 2 ≡ 0
    → old.chip.busy ≡ 0
ready_shown {status} {old} {new} made even =
    let shown : status ≡ status1_of old.chip = made.step.replies 0 (omega arith) in
    eqb-true old.chip.busy 0
    (ready_by (old.chip.busy == 0) old.chip.latch old.chip.kept.one (subst (λ (n : ℕ). n % 2 ≡ 0) shown even))

-- Two polls show the same status if the chip, when the later one began, was as when the earlier one began.
pub polls_agree : {status again : ℕ} {old mid later new : BusState} → MakesStep (0x05 ∷ []) (status ∷ []) old mid
    → KeepsAll old later → MakesStep (0x05 ∷ []) (again ∷ []) later new → again ≡ status
polls_agree {status} {again} {old} {mid} {later} {new} first keeps last =
    let one : status ≡ status1_of old.chip = first.step.replies 0 (omega arith) in
    let two : again ≡ status1_of later.chip = last.step.replies 0 (omega arith) in
    two ∙ ap status1_of keeps.chip ∙ sym one

poll_same : {chip new : Chip} {answer : List ℕ} → chip.busy ≡ 0 → Step chip (0x05 ∷ []) answer new → new ≡ chip
poll_same {chip} {new} {answer} ready does =
    let least : chip.busy - 1 ≡ chip.busy = omega (arith, ready) in
    same_chip does.config does.bytes does.kept
    (does.latch ∙ ap (λ (n : ℕ). if n == 1 then false else chip.latch) ready) (does.busy ∙ least) does.running

pub poll_keeps : {answer : List ℕ} {old new : BusState} → old.chip.busy ≡ 0 → MakesStep (0x05 ∷ []) answer old new
    → KeepsAll old new
poll_keeps {answer} {old} {new} ready made = record {
  chip = poll_same ready made.step;
  worn = λ s. made.worn s ∙ or-false (old.worn s);
}

second_same : {chip new : Chip} {answer : List ℕ} → Step chip (0x35 ∷ []) answer new → new ≡ chip
second_same does = same_chip does.config does.bytes does.kept does.latch does.busy does.running

pub second_keeps : {answer : List ℕ} {old new : BusState} → MakesStep (0x35 ∷ []) answer old new → KeepsAll old new
second_keeps {answer} {old} {new} made = record {
  chip = second_same made.step;
  worn = λ s. made.worn s ∙ or-false (old.worn s);
}

taken : (count opcode : ℕ) → (take count (opcode ∷ []) ≡ []) ⊎ (take count (opcode ∷ []) ≡ opcode ∷ [])
taken zero opcode = inl refl
taken (suc zero) opcode = inr refl
taken (suc (suc n)) opcode = inr refl

none_same : {chip new : Chip} (answer : List ℕ) → Step chip [] answer new → new ≡ chip
none_same answer does = same_chip does.config does.bytes does.kept does.latch does.busy does.running

part_same : {chip reached : Chip} (count opcode : ℕ) (read : List ℕ)
    → (Step chip (opcode ∷ []) read reached → reached ≡ chip)
    → Step chip (take count (opcode ∷ [])) read reached → reached ≡ chip
part_same {chip} {reached} count opcode read same step = elim (taken count opcode) [
  | inl none ↦ none_same read (subst (λ (out : List ℕ). Step chip out read reached) none step)
  | inr all ↦ same (subst (λ (out : List ℕ). Step chip out read reached) all step)
]

part_wears : (chip : Chip) (count opcode replies s : ℕ) → wears (done_of chip (opcode ∷ []) replies) s ≡ false
    → wears (done_of chip (take count (opcode ∷ [])) replies) s ≡ false
part_wears chip count opcode replies s same = elim (taken count opcode) [
  | inl none ↦ ap (λ (out : List ℕ). wears (done_of chip out replies) s) none
  | inr all ↦ ap (λ (out : List ℕ). wears (done_of chip out replies) s) all ∙ same
]

stops_same : {opcode : ℕ} {old new : BusState}
    → ((read : List ℕ) (reached : Chip) → Step old.chip (opcode ∷ []) read reached → reached ≡ old.chip)
    → ((replies s : ℕ) → wears (done_of old.chip (opcode ∷ []) replies) s ≡ false)
    → AtStop (opcode ∷ []) old new → StopsUnread old new
stops_same {opcode} {old} {new} same wears_none at =
    let kept = part_same at.count opcode at.read (same at.read at.reached) at.step in record {
      chip = subst (λ (chip : Chip). (new.chip ≡ chip) ⊎ PowerLost chip new.chip) kept at.chip;
      worn = λ s. at.worn s
          ∙ ap (λ (b : Bool). old.worn s || b)
          (part_wears old.chip at.count opcode (length at.read) s (wears_none (length at.read) s))
          ∙ or-false (old.worn s);
      unsent = at.unsent;
    }

pub second_stops : {old new : BusState} → AtStop (0x35 ∷ []) old new → StopsUnread old new
second_stops at = stops_same (λ read reached step. second_same step) (λ replies s. refl) at

pub poll_stops : {old new : BusState} → old.chip.busy ≡ 0 → AtStop (0x05 ∷ []) old new → StopsUnread old new
poll_stops ready at = stops_same (λ read reached step. poll_same ready step) (λ replies s. refl) at

pub made_then : {out answer : List ℕ} {old mid new : BusState} → MakesStep out answer old mid → KeepsAll mid new
    → MakesStep out answer old new
made_then {out} {answer} {old} {mid} {new} made keeps = record {
  step = subst (λ (chip : Chip). Step old.chip out answer chip) (sym keeps.chip) made.step;
  worn = λ s. keeps.worn s ∙ made.worn s;
}

pub record Quiet (old new : BusState) : Type 0 where
  pub nature : SameNature old new
  pub keeps : KeepsAll old new

pub quiet_then : {old mid new : BusState} → Quiet old mid → Quiet mid new → Quiet old new
quiet_then {old} {mid} {new} first last = record {
  nature = record {
    honest = last.nature.honest ∙ first.nature.honest;
    steady = last.nature.steady ∙ first.nature.steady;
    unlimited = last.nature.unlimited ∙ first.nature.unlimited;
    longer = last.nature.longer ∙ first.nature.longer;
    punctual = last.nature.punctual ∙ first.nature.punctual;
    further = last.nature.further ∙ first.nature.further;
    config = λ honest. last.nature.config (first.nature.honest ∙ honest) ∙ first.nature.config honest;
  };
  keeps = keeps_then first.keeps last.keeps;
}

pub quiet_id : {answer : List ℕ} {old new : BusState} → SameNature old new → MakesStep (0x9F ∷ []) answer old new
    → Quiet old new
quiet_id nature made = record { nature = nature; keeps = read_made refl made }

pub quiet_second : {answer : List ℕ} {old new : BusState} → SameNature old new → MakesStep (0x35 ∷ []) answer old new
    → Quiet old new
quiet_second nature made = record { nature = nature; keeps = second_keeps made }

pub quiet_poll : {answer : List ℕ} {old new : BusState} → SameNature old new → old.chip.busy ≡ 0
    → MakesStep (0x05 ∷ []) answer old new → Quiet old new
quiet_poll nature ready made = record { nature = nature; keeps = poll_keeps ready made }

pub still_honest : {old new : BusState} → Quiet old new → old.honest ≡ true → new.honest ≡ true
still_honest quiet honest = quiet.nature.honest ∙ honest

pub still_ready : {old new : BusState} → Quiet old new → old.chip.busy ≡ 0 → new.chip.busy ≡ 0
still_ready quiet ready = ap (λ (chip : Chip). chip.busy) quiet.keeps.chip ∙ ready

pub behind : {old mid new : BusState} → Quiet old mid → StopsUnread mid new → StopsUnread old new
behind quiet stops = stops_then quiet.nature.steady quiet.keeps stops

pub quiet_made : {out answer : List ℕ} {old mid new : BusState} → Quiet old mid → Quiet old new
    → MakesStep out answer old mid → MakesStep out answer old new
quiet_made {out} {answer} {old} {mid} {new} first whole made = made_then made record {
  chip = whole.keeps.chip ∙ sym first.keeps.chip;
  worn = λ s. whole.keeps.worn s ∙ sym (first.keeps.worn s);
}

pub nature_none : {state : BusState} → SameNature state state
nature_none = record {
  honest = refl;
  steady = refl;
  unlimited = refl;
  longer = refl;
  punctual = refl;
  further = refl;
  config = λ honest. refl;
}

bare : (out : List ℕ) (opcode : ℕ) → slice_index out 0 ≡ opcode → 1 ≤ length out → length out < 2
    → out ≡ opcode ∷ []
bare [] opcode is some short = absurd (omega (arith, some))
bare (first ∷ []) opcode is some short = ap (λ (byte : ℕ). byte ∷ []) is
bare (first ∷ next ∷ rest) opcode is some short = absurd (omega (arith, short))

alone : (reply : List ℕ) (byte : ℕ) → length reply ≡ 1 → slice_set reply 0 byte ≡ byte ∷ []
alone [] byte one = absurd (omega (arith, one))
alone (first ∷ []) byte one = refl
alone (first ∷ next ∷ rest) byte one = absurd (omega (arith, one))

pub made_as : {opcode byte : ℕ} {old new : BusState} (out reply : List ℕ) → slice_index out 0 ≡ opcode
    → 1 ≤ length out → length out < 2 → length reply ≡ 1 → MakesStep (opcode ∷ []) (byte ∷ []) old new
    → MakesStep out (slice_set reply 0 byte) old new
made_as {opcode} {byte} {old} {new} out reply is some short one made =
    subst (λ (sent : List ℕ). MakesStep sent (slice_set reply 0 byte) old new) (sym (bare out opcode is some short))
    (subst (λ (read : List ℕ). MakesStep (opcode ∷ []) read old new) (sym (alone reply byte one)) made)
