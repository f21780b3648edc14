-- Lemmas: a read of data, of an ID or of SFDP leaves the chip as it was. A stop at such a read leaves the chip as it
-- was or without power.
use Rattle.std.proofs.Common.{◌≡◌, ◌∙◌, ◌⊎◌, ◌||◌, ℕ, zero, suc, Bool, true, false, List, [], ◌∷◌, length, take, refl, sym, ap, subst, arith, inl}
use Rattle.std.specs.Prelude.{Result, Ok, Err, OnErr}
use mathlib.Core.Path.{fun_ext}
use Rattle.std.proofs.Math.Bool.{or-false}
use Rattle.std.proofs.lemmas.Bool.{false≢true}
use Rattle.std.proofs.lemmas.Bool.Decides.{nat_tests}
use Rattle.nor_model.specs.declared.config.Config.{Config}
use Rattle.nor_model.specs.declared.command.Command.{Command}
use Rattle.nor_model.specs.declared.command.Command.TheVariants.{ReadData, ReadId, ReadSfdp, ReadUnique, Ignored}
use Rattle.nor_model.specs.Chip.{Chip}
use Rattle.nor_model.specs.Command.{command_of}
use Rattle.nor_model.specs.Power.{PowerLost}
use Rattle.nor_model.specs.Step.{Step, Does, done_of, wears}
use Rattle.nor_model.specs.Bus.{BusState, Stops, AtStop, Carries}
use Rattle.nor_model.proofs.Steps.{nothing_sent}
use Rattle.nor_buses.specs.Twice.{begins_read}
use Rattle.nor_buses.specs.Keeps.{KeepsAll, StopsUnread, MakesStep}

abbrev is_reading : Command → Bool
is_reading (ReadData at) = true
is_reading ReadId = true
is_reading (ReadSfdp at) = true
is_reading ReadUnique = true
is_reading Ignored = true
is_reading _ = false

reads_asked : (config : Config) (out : List ℕ) (replies : ℕ) → begins_read out ≡ true
    → is_reading (command_of config out replies) ≡ true
reads_asked config [] replies reads = refl
reads_asked config (opcode ∷ []) replies reads = grind (arith, reads, nat_tests)
reads_asked config (opcode ∷ x ∷ []) replies reads = refl
reads_asked config (opcode ∷ x ∷ y ∷ []) replies reads = grind (arith, reads, nat_tests)
reads_asked config (opcode ∷ x ∷ y ∷ z ∷ []) replies reads = grind (arith, reads, nat_tests)
reads_asked config (opcode ∷ x ∷ y ∷ z ∷ fifth ∷ []) replies reads = grind (arith, reads, nat_tests)
reads_asked config (opcode ∷ x ∷ y ∷ z ∷ fifth ∷ sixth ∷ rest) replies reads = grind (arith, reads, nat_tests)

reads_done : (chip : Chip) (out : List ℕ) (replies : ℕ) → begins_read out ≡ true
    → is_reading (done_of chip out replies) ≡ true
reads_done chip out replies reads = grind (arith, reads_asked chip.config out replies)

reads_part : (chip : Chip) (count : ℕ) (out : List ℕ) (replies : ℕ) → begins_read out ≡ true
    → is_reading (done_of chip (take count out) replies) ≡ true
reads_part chip zero out replies reads = refl
reads_part chip (suc n) [] replies reads = refl
reads_part chip (suc n) (opcode ∷ rest) replies reads = reads_done chip (opcode ∷ take n rest) replies reads

pub same_chip : {old new : Chip} → new.config ≡ old.config → ((a : ℕ) → new.bytes a ≡ old.bytes a) → new.kept ≡ old.kept
    → new.latch ≡ old.latch → new.busy ≡ old.busy → new.running ≡ old.running → new ≡ old
same_chip config bytes kept latch busy running = λ i. record {
  config = config i;
  bytes = fun_ext bytes i;
  kept = kept i;
  latch = latch i;
  busy = busy i;
  running = running i;
}

keeps_reading : (command : Command) (sent answer : List ℕ) (old new : Chip) → is_reading command ≡ true
    → Does command sent old answer new → new ≡ old
keeps_reading (ReadData at) sent answer old new is does =
    same_chip does.config does.bytes does.kept does.latch does.busy does.running
keeps_reading ReadId sent answer old new is does =
    same_chip does.config does.bytes does.kept does.latch does.busy does.running
keeps_reading (ReadSfdp at) sent answer old new is does =
    same_chip does.config does.bytes does.kept does.latch does.busy does.running
keeps_reading ReadUnique sent answer old new is does =
    same_chip does.config does.bytes does.kept does.latch does.busy does.running
keeps_reading Ignored sent answer old new is does =
    same_chip does.config does.bytes does.kept does.latch does.busy does.running
keeps_reading _ sent answer old new is does = absurd (false≢true is)

reading_wears : (command : Command) → is_reading command ≡ true → (s : ℕ) → wears command s ≡ false
reading_wears (ReadData at) is s = refl
reading_wears ReadId is s = refl
reading_wears (ReadSfdp at) is s = refl
reading_wears ReadUnique is s = refl
reading_wears Ignored is s = refl
reading_wears _ is s = absurd (false≢true is)

worn_same : (command : Command) (worn now : Bool) (s : ℕ) → is_reading command ≡ true → now ≡ (worn || wears command s)
    → now ≡ worn
worn_same command worn now s is by =
    by ∙ ap (λ (b : Bool). worn || b) (reading_wears command is s) ∙ or-false worn

pub read_wears_none : (chip : Chip) (out : List ℕ) (replies s : ℕ) (worn : Bool) → begins_read out ≡ true
    → worn ≡ (worn || wears (done_of chip out replies) s)
read_wears_none chip out replies s worn reads =
    sym (ap (λ (b : Bool). worn || b) (reading_wears _ (reads_done chip out replies reads) s) ∙ or-false worn)

pub read_made : {out answer : List ℕ} {old new : BusState} → begins_read out ≡ true → MakesStep out answer old new
    → KeepsAll old new
read_made {out} {answer} {old} {new} reads made =
    let is = reads_done old.chip out (length answer) reads in record {
      chip = keeps_reading _ _ _ old.chip new.chip is made.step;
      worn = λ s. worn_same _ (old.worn s) (new.worn s) s is (made.worn s);
    }

pub read_keeps : {out answer : List ℕ} {old new : BusState} → begins_read out ≡ true → Carries out answer old new
    → KeepsAll old new
read_keeps {out} {answer} {old} {new} reads carries =
    read_made {out = out} {answer = answer} {old = old} {new = new} reads
    (record { step = carries.step; worn = carries.worn })

pub read_stops : {out : List ℕ} {old new : BusState} → begins_read out ≡ true → Stops out old new
    → StopsUnread old new
read_stops {out} {old} {new} reads stops =
    let at = stops.at_stop in
    let is = reads_part old.chip at.count out (length at.read) reads in
    let same = keeps_reading _ _ _ old.chip at.reached is at.step in
    record {
      chip = subst (λ (chip : Chip). (new.chip ≡ chip) ⊎ PowerLost chip new.chip) same at.chip;
      worn = λ s. worn_same _ (old.worn s) (new.worn s) s is (at.worn s);
      unsent = at.unsent;
    }

pub keeps_none : {state : BusState} → KeepsAll state state
keeps_none = record { chip = refl; worn = λ s. refl }

pub keeps_then : {old mid new : BusState} → KeepsAll old mid → KeepsAll mid new → KeepsAll old new
keeps_then first second = record {
  chip = second.chip ∙ first.chip;
  worn = λ s. second.worn s ∙ first.worn s;
}

pub stops_then : {old mid new : BusState} → mid.steady ≡ old.steady → KeepsAll old mid → StopsUnread mid new
    → StopsUnread old new
stops_then {old} {mid} {new} steady keeps stops = record {
  chip = subst (λ (chip : Chip). (new.chip ≡ chip) ⊎ PowerLost chip new.chip) keeps.chip stops.chip;
  worn = λ s. stops.worn s ∙ keeps.worn s;
  unsent = λ is. stops.unsent (steady ∙ is) ∙ keeps.chip;
}

pub stops_at : {out : List ℕ} {old new : BusState} → StopsUnread old new → AtStop out old new
stops_at {out} {old} {new} stops = record {
  count = 0;
  read = [];
  reached = old.chip;
  step = nothing_sent old.chip;
  chip = stops.chip;
  worn = λ s. stops.worn s ∙ sym (or-false (old.worn s));
  none = λ steady. refl;
  unsent = stops.unsent;
}

pub step_of : {out answer : List ℕ} {old new : BusState} → Carries out answer old new → MakesStep out answer old new
step_of carries = record { step = carries.step; worn = carries.worn }

pub step_then : {out answer : List ℕ} {old mid new : BusState} → Carries out answer old mid → KeepsAll mid new
    → MakesStep out answer old new
step_then {out} {answer} {old} {mid} {new} carries keeps = record {
  step = subst (λ (chip : Chip). Step old.chip out answer chip) (sym keeps.chip) carries.step;
  worn = λ s. keeps.worn s ∙ carries.worn s;
}

pub keeps_stops : {old new : BusState} → KeepsAll old new → StopsUnread old new
keeps_stops keeps = record { chip = inl keeps.chip; worn = keeps.worn; unsent = λ steady. keeps.chip }

pub confirmed_stops : {out answer : List ℕ} {old mid new : BusState} → begins_read out ≡ true
    → mid.steady ≡ old.steady → Carries out answer old mid → StopsUnread mid new → AtStop out old new
confirmed_stops reads steady carries stops = stops_at (stops_then steady (read_keeps reads carries) stops)

pub on_err : {T E X : Type 0} (result : Result T E) → X → OnErr result X
on_err (Ok value) fact = tt
on_err (Err error) fact = fact
