use Rattle.std.proofs.Common.{◌≡◌, ◌∙◌, ◌⊎◌, ℕ, Bool, true, List, [], ◌∷◌, length, take, refl, sym, ap, subst, inl, inr}
use Rattle.std.specs.Prelude.{◌||◌}
use Rattle.std.proofs.lemmas.Bool.{cases_Bool, eqb-true}
use Rattle.std.proofs.Math.Bool.{or-false}
use Rattle.nor_model.specs.declared.running.Running.{Running}
use Rattle.nor_model.specs.declared.running.Running.TheVariants.{StatusWrite, Unknown}
use Rattle.nor_model.specs.Chip.{Chip, KeptBits}
use Rattle.nor_model.specs.Power.{PowerLost, KeptCut}
use Rattle.nor_model.specs.Step.{done_of, is_idle}
use Rattle.nor_model.proofs.Steps.{nothing_sent}
use Rattle.nor_serprog.specs.Device.{Device, IsCut}
use Rattle.nor_serprog.specs.Enabled.{enabled, enabled_device, SameChipOf}
use Rattle.nor_serprog.proofs.Enabling.{MayEnable, same_chip, busy_same, done_first, reached_by, no_wear, steps_from}

kept_cut : (running : Running) (kept : KeptBits) → KeptCut running kept kept
kept_cut (StatusWrite one two) kept = inl refl
kept_cut Unknown kept = tt
kept_cut _ kept = refl

unlatched : (chip : Chip) → (chip ≡ enabled true chip) ⊎ PowerLost (enabled true chip) chip
unlatched chip = elim (cases_Bool (is_idle chip)) [
  | inr busy ↦ inl (busy_same chip busy)
  | inl idle ↦ elim (cases_Bool chip.latch) [
    | inl set ↦
        inl (same_chip chip (enabled true chip) refl (λ x. refl) refl
        (set ∙ sym (ap (λ (b : Bool). b || chip.latch) idle)) refl refl)
    | inr clear ↦ inr (record {
      config = refl;
      latch = clear;
      busy = eqb-true chip.busy 0 idle;
      bytes = λ a none. refl;
      kept = kept_cut chip.running chip.kept;
      idle = λ none. record { config = refl; bytes = λ a. refl; kept = refl };
    })
  ]
]

lost_from : (old new : Chip) → PowerLost old new → PowerLost (enabled true old) new
lost_from old new lost = record {
  config = lost.config;
  latch = lost.latch;
  busy = lost.busy;
  bytes = lost.bytes;
  kept = lost.kept;
  idle = λ none.
      let same = lost.idle none in record { config = same.config; bytes = same.bytes; kept = same.kept };
}

ends_enabled : (old reached new : Chip) → (reached ≡ old) ⊎ (reached ≡ enabled true old)
    → (new ≡ reached) ⊎ PowerLost reached new → (new ≡ enabled true old) ⊎ PowerLost (enabled true old) new
ends_enabled old reached new (inr is) (inl same) = inl (same ∙ is)
ends_enabled old reached new (inr is) (inr lost) = inr (subst (λ (c : Chip). PowerLost c new) is lost)
ends_enabled old reached new (inl is) (inl same) = elim (unlatched old) [
  | inl latched ↦ inl (same ∙ is ∙ latched)
  | inr lost ↦ inr (subst (λ (c : Chip). PowerLost (enabled true old) c) (sym (same ∙ is)) lost)
]
ends_enabled old reached new (inl is) (inr lost) =
    inr (lost_from old new (subst (λ (c : Chip). PowerLost c new) is lost))

pub nothing_cut : (out : List ℕ) (device : Device) → IsCut out device device
nothing_cut out device = record {
  count = 0;
  read = [];
  reached = device;
  steps = record { step = nothing_sent device.chip; worn = λ s. sym (or-false (device.worn s)) };
  then = record { chip = inl refl; worn = λ s. refl };
}

-- If a write enable that was held back is interrupted, this counts as an interruption of the transaction after it.
pub enable_cut : (out : List ℕ) (old new : Device) → IsCut (0x06 ∷ []) old new
    → IsCut out (enabled_device true old) new
enable_cut out old new c =
    let may : MayEnable old.chip (done_of old.chip (take c.count (0x06 ∷ [])) (length c.read)) =
    done_first old.chip c.count (length c.read) in
    let reached = reached_by (take c.count (0x06 ∷ [])) c.read old.chip c.reached.chip may c.steps.step in
    record {
      count = 0;
      read = [];
      reached = enabled_device true old;
      steps = record { step = nothing_sent (enabled true old.chip); worn = λ s. sym (or-false (old.worn s)) };
      then = record {
        chip = ends_enabled old.chip c.reached.chip new.chip reached c.then.chip;
        worn = λ s.
            c.then.worn s ∙ c.steps.worn s
            ∙ ap (λ (b : Bool). old.worn s || b)
            (no_wear old.chip (done_of old.chip (take c.count (0x06 ∷ [])) (length c.read)) s may)
            ∙ or-false (old.worn s);
      };
    }

pub cut_from : (out : List ℕ) (base between new : Device) → SameChipOf base between → IsCut out between new
    → IsCut out base new
cut_from out base between new same c = record {
  count = c.count;
  read = c.read;
  reached = c.reached;
  steps = steps_from (take c.count out) c.read base between c.reached same c.steps;
  then = c.then;
}
