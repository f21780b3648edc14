-- Lemmas: a transaction of the simulated chip is a transaction of the programmer with this chip.
use Rattle.std.proofs.Common.{◌≡◌, ◌∙◌, ℕ, Bool, true, false, List, [], ◌∷◌, length, refl, sym, ap, subst, arith, inl, inr}
use Rattle.std.specs.Prelude.{◌||◌, ◌==◌, take, drop, Option, Result, Ok, Err, OnOk, OnErr, if◌then◌else◌}
use Rattle.std.proofs.lemmas.Bool.{eqb-true, cases_Bool}
use Rattle.nor_model.specs.declared.config.Config.{Config}
use Rattle.nor_model.specs.Chip.{Chip}
use Rattle.nor_model.specs.Step.{Step, Does, is_command, determined, done_of, wears}
use Rattle.nor_model.specs.Bus.{BusState, Allows, AtStop}
use Rattle.nor_serprog.specs.Device.{Device, IsCut, StepsOnce}
use Rattle.serprog_session.specs.SimPort.{device_over, simulated_firmware, simulated_settings}

pub empty : (items : List ℕ) → (length items == 0) ≡ true → items ≡ []
empty [] none = refl
empty (first ∷ rest) none =
    let len = eqb-true (length (first ∷ rest)) 0 none in absurd (omega (arith, len))

pub failed : {T E : Type 0} (result : Result T E) (P Q : Type 0) → OnOk result P → OnErr result Q → (P → ⊥) → Q
failed (Ok value) P Q ok err never = absurd (never ok)
failed (Err error) P Q ok err never = err

worn_then : (n : ℕ) (out : List ℕ) (replies : ℕ) (old mid : BusState) (worn : ℕ → Bool) → Allows n old mid
    → ((s : ℕ) → worn s ≡ (mid.worn s || wears (done_of mid.chip out replies) s))
    → (s : ℕ) → worn s ≡ (old.worn s || wears (done_of old.chip out replies) s)
worn_then n out replies old mid worn allows after s =
    let P : Chip → Type 0 = λ c. worn s ≡ (old.worn s || wears (done_of c out replies) s) in
    subst P allows.chip
    (after s ∙ ap (λ (w : Bool). w || wears (done_of mid.chip out replies) s) (allows.worn s))

pub cut : (out : List ℕ) (old mid new : BusState) (bus_type : Option ℕ) (pending pending' : List ℕ) → Allows 0 old mid
    → AtStop out mid new → IsCut out (device_over old bus_type pending) (device_over new bus_type pending')
cut out old mid new bus_type pending pending' allows stop =
    let P : Chip → Type 0 = λ c. Step c (take stop.count out) stop.read stop.reached in
    record {
      count = stop.count;
      read = stop.read;
      reached = record {
        chip = stop.reached;
        worn = new.worn;
        firmware = simulated_firmware;
        settings = simulated_settings bus_type;
        begun = [];
        pending = [];
      };
      steps = record {
        step = subst P allows.chip stop.step;
        worn = worn_then 0 (take stop.count out) (length stop.read) old mid new.worn allows stop.worn;
      };
      then = record { chip = stop.chip; worn = λ s. refl };
    }

open_step : (out first again : List ℕ) (old new : Chip) → is_command old.config out (length first) ≡ false
    → length again ≡ length first → Step old out first new → Step old out again new
open_step out first again old new none len step =
    let c = old.config in
    let before : determined c out first ≡ [] = ap (λ (all : Bool). if all then first else []) none in
    let none' : is_command c out (length again) ≡ false = ap (λ (n : ℕ). is_command c out n) len ∙ none in
    let after : determined c out again ≡ [] = ap (λ (all : Bool). if all then again else []) none' in
    let P : (n : ℕ) → List ℕ → Type 0 = λ n r. Does (done_of old out n) (drop 4 out) old r new in
    subst (P (length again)) (sym after)
    (subst (λ (n : ℕ). P n []) (sym len) (subst (P (length first)) before step))

-- If the transaction is no command of the model, every other reply of this length is possible, too.
pub open_reply : (out first again : List ℕ) (old new : Device)
    → ((config : Config) (replies : ℕ) → is_command config out replies ≡ true → again ≡ first)
    → length again ≡ length first → StepsOnce out first old new → StepsOnce out again old new
open_reply out first again old new same len steps =
    elim (cases_Bool (is_command old.chip.config out (length first))) [
      | inl is ↦
          subst (λ (r : List ℕ). StepsOnce out r old new) (sym (same old.chip.config (length first) is)) steps
      | inr none ↦ record {
        step = open_step out first again old.chip new.chip none len steps.step;
        worn = λ s.
            let P : ℕ → Type 0 = λ n. new.worn s ≡ (old.worn s || wears (done_of old.chip out n) s) in
            subst P (sym len) (steps.worn s);
      }
    ]
