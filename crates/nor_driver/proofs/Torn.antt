use Rattle.std.proofs.Common.{◌≡◌, ◌∙◌, ◌⊎◌, ◌||◌, ℕ, zero, suc, Bool, true, false, true≢false, List, [], ◌∷◌, length, take, refl, sym, ap, arith, inl, inr}
use Rattle.std.proofs.Math.Seq.{take-nil}
use Rattle.std.proofs.Math.Bool.{or-false}
use Rattle.std.proofs.lemmas.Bool.{cases_Bool}
use Rattle.std.proofs.lemmas.Bool.Decides.{nat_tests}
use Rattle.nor_model.specs.declared.config.Config.{Config}
use Rattle.nor_model.specs.declared.command.Command.{Command}
use Rattle.nor_model.specs.declared.command.Command.TheVariants.{WriteEnable, WriteStatus, Program, Erase}
use Rattle.nor_model.specs.Chip.{Chip}
use Rattle.nor_model.specs.Command.{command_of, begins_quiet, is_quiet_opcode}
use Rattle.nor_model.specs.Power.{PowerLost}
use Rattle.nor_model.specs.Step.{Does, is_operation, done_of, wears}
use Rattle.nor_model.specs.Bus.{BusState, AtStop, Stops}
use Rattle.nor_driver.specs.OnlyReads.{Unchanged, KeepsChip, OnlyReadsHonest}
use Rattle.nor_driver.proofs.Cuts.{kept_cut-stay, stays_after}

abbrev pub Wore : Command → BusState → BusState → Type 0
Wore command old new = (s : ℕ) → new.worn s ≡ (old.worn s || wears command s)

pub no_operation : (command : Command) (sent answer : List ℕ) (old new : BusState) → is_operation command ≡ false
    → Does command sent old.chip answer new.chip → Wore command old new → Unchanged old new
no_operation command sent answer old new is does wore = grind (arith, wore, or-false)

pub record IsAsBefore (old new : BusState) : Type 0 where
  pub chip : new.chip ≡ old.chip
  pub worn : (s : ℕ) → new.worn s ≡ old.worn s

pub still_or_torn : (out : List ℕ) (old new : BusState) → AtStop out old new
    → IsAsBefore old new ⊎ ((old.steady ≡ false) × AtStop out old new)
still_or_torn out old new stop = elim (cases_Bool old.steady) [
  | inl steady ↦ inl record {
    chip = stop.unsent steady;
    worn = λ s. (rw (stop.none steady) at stop.worn s) ∙ or-false (old.worn s);
  }
  | inr unsteady ↦ inr (unsteady, stop)
]

pub still_stays : (old new : BusState) → IsAsBefore old new → KeepsChip old new
still_stays old new still = grind (arith, still.worn, kept_cut-stay old.chip.running old.chip.kept new.chip.kept)

lost_stays : (old new : BusState) → old.steady ≡ false → PowerLost old.chip new.chip
    → ((s : ℕ) → new.worn s ≡ old.worn s) → KeepsChip old new
lost_stays old new unsteady lost worn = grind (arith, lost.bytes, worn)

-- The state `old` after the effect of the bytes that were sent before the stop, and before a possible power failure.
abbrev pub reached : (out : List ℕ) (old new : BusState) → AtStop out old new → BusState
reached out old new cut = record old { chip = cut.reached; worn = new.worn }

pub reached_stays : (out : List ℕ) (old new : BusState) → old.steady ≡ false → (cut : AtStop out old new)
    → KeepsChip (reached out old new cut) new
reached_stays out old new unsteady cut = elim cut.chip [
  | inl same ↦ still_stays (reached out old new cut) new record { chip = same; worn = λ s. refl }
  | inr lost ↦ lost_stays (reached out old new cut) new unsteady lost (λ s. refl)
]

pub none_begun : (out : List ℕ) (old new : BusState) → old.steady ≡ false → (cut : AtStop out old new)
    → is_operation (done_of old.chip (take cut.count out) (length cut.read)) ≡ false → KeepsChip old new
none_begun out old new unsteady cut none =
    stays_after old (reached out old new cut) new refl
    (no_operation _ _ _ old (reached out old new cut) none cut.step cut.worn)
    (reached_stays out old new unsteady cut)

enable_part : (chip : Chip) (count replies : ℕ) → is_operation (done_of chip (take count (6 ∷ [])) replies) ≡ false
enable_part chip zero replies = refl
enable_part chip (suc n) replies = rw (take-nil {A = ℕ} n) (grind arith)

pub enable_stays : (old new : BusState) → Stops (6 ∷ []) old new → KeepsChip old new
enable_stays old new stops = elim (still_or_torn _ old new stops.at_stop) [
  | inl still ↦ still_stays old new still
  | inr cut ↦ none_begun (6 ∷ []) old new cut.0 cut.1 (enable_part old.chip cut.1.count (length cut.1.read))
]

-- True if the command begins no operation and does not set the write enable latch.
abbrev pub is_quiet : Command → Bool
is_quiet WriteEnable = false
is_quiet (WriteStatus one two) = false
is_quiet (Program at) = false
is_quiet (Erase start len) = false
is_quiet _ = true

quiet_asks : (config : Config) (opcode : ℕ) (rest : List ℕ) (replies : ℕ) → is_quiet_opcode opcode ≡ true
    → is_quiet (command_of config (opcode ∷ rest) replies) ≡ true
quiet_asks config opcode [] replies quiet = grind (arith, nat_tests)
quiet_asks config opcode (x ∷ []) replies quiet = refl
quiet_asks config opcode (x ∷ y ∷ []) replies quiet = grind (arith, nat_tests)
quiet_asks config opcode (x ∷ y ∷ z ∷ []) replies quiet = grind (arith, nat_tests)
quiet_asks config opcode (x ∷ y ∷ z ∷ fifth ∷ []) replies quiet = grind (arith, nat_tests)
quiet_asks config opcode (x ∷ y ∷ z ∷ fifth ∷ sixth ∷ rest) replies quiet = grind (arith, nat_tests)

quiet_part : (config : Config) (count : ℕ) (out : List ℕ) (replies : ℕ) → begins_quiet out ≡ true
    → is_quiet (command_of config (take count out) replies) ≡ true
quiet_part config zero out replies quiet = refl
quiet_part config (suc n) [] replies quiet = refl
quiet_part config (suc n) (opcode ∷ rest) replies quiet =
    quiet_asks config opcode (take n rest) replies (grind (arith, quiet))

quiet_done : (chip : Chip) (count : ℕ) (out : List ℕ) (replies : ℕ) → begins_quiet out ≡ true
    → is_quiet (done_of chip (take count out) replies) ≡ true
quiet_done chip count out replies quiet = grind (arith, quiet_part chip.config count out replies quiet)

quiet_is_none : (command : Command) → is_quiet command ≡ true → is_operation command ≡ false
quiet_is_none command quiet = grind arith

quiet_latch : (command : Command) (sent answer : List ℕ) (old new : Chip) → is_quiet command ≡ true
    → Does command sent old answer new → new.latch ≡ true → old.latch ≡ true
quiet_latch command sent answer old new quiet does = grind arith

latch_then : (mid new : Chip) → (new ≡ mid) ⊎ PowerLost mid new → new.latch ≡ true → mid.latch ≡ true
latch_then mid new (inl same) latch = ap (λ (c : Chip). c.latch) (sym same) ∙ latch
latch_then mid new (inr lost) latch = absurd (true≢false (sym latch ∙ lost.latch))

pub honest_reads_at_stop : (out : List ℕ) (old new : BusState) (most : ℕ) → begins_quiet out ≡ true
    → Stops out old new → OnlyReadsHonest most old new
honest_reads_at_stop out old new most quiet stops = elim (still_or_torn _ old new stops.at_stop) [
  | inl still ↦ grind (arith, still_stays old new still)
  | inr cut ↦
      let is = quiet_done old.chip cut.1.count out (length cut.1.read) quiet in
      record {
        stays = none_begun out old new cut.0 cut.1 (quiet_is_none _ is);
        latch = λ latch. quiet_latch _ _ _ old.chip cut.1.reached is cut.1.step
            (latch_then cut.1.reached new.chip cut.1.chip latch);
        idle_latch = λ steady idle. absurd (true≢false (sym steady ∙ cut.0));
        falls = grind (arith, stops.left);
      }
]
