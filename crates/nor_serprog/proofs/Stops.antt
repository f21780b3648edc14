-- If a transaction over a well-behaved port fails, it fails as the contract of a bus allows (`Stops`).
use Rattle.std.proofs.Common.{◌≡◌, ◌∙◌, ◌<◌, ◌≤◌, ◌⊎◌, ℕ, Bool, true, false, List, [], length, refl, sym, ap, subst, arith, inl, inr}
use Rattle.std.proofs.Math.Bool.{or-false}
use Rattle.std.proofs.lemmas.Bool.{cases_Bool, false≢true}
use Rattle.nor_model.specs.Exchange.{Exchange}
use Rattle.nor_model.specs.Bus.{IsHonestFor, Stops}
use Rattle.nor_model.proofs.Steps.{nothing_sent}
use Rattle.nor_serprog.specs.declared.link.Link.{Link}
use Rattle.nor_serprog.specs.Bus.{over_port}
use Rattle.nor_serprog.specs.Device.{PortState, Interrupted}
use Rattle.nor_serprog.specs.Link.{is_in_step, IsSettled}

stops_cut : (further : Bool) (out : List ℕ) (replies : ℕ) (old new : PortState) (history history' : List Exchange)
    → old.left < 3 → Interrupted out replies replies old new
    → Stops out (over_port further old history) (over_port further new history')
stops_cut further out replies old new history history' few is = record {
  none_left = λ punctual. omega (arith, few);
  left = λ punctual. omega (arith, few, is.few);
  at_stop = record {
    count = is.cut.count;
    read = is.cut.read;
    reached = is.cut.reached.chip;
    step = is.cut.steps.step;
    chip = is.cut.then.chip;
    worn = λ s. is.cut.then.worn s ∙ is.cut.steps.worn s;
    none = λ steady. absurd (false≢true steady);
    unsent = λ steady. absurd (false≢true steady);
  };
}

stops_silent : (further : Bool) (out : List ℕ) (port : PortState) (history history' : List Exchange) → port.left < 3
    → Stops out (over_port further port history) (over_port further port history')
stops_silent further out port history history' few = record {
  none_left = λ punctual. omega (arith, few);
  left = λ punctual. refl;
  at_stop = record {
    count = 0;
    read = [];
    reached = port.device.chip;
    step = nothing_sent port.device.chip;
    chip = inl refl;
    worn = λ s. sym (or-false (port.device.worn s));
    none = λ steady. refl;
    unsent = λ steady. refl;
  };
}

pub stops_over : {P C : Type 0} (further : Bool) (port : P → PortState) (out : List ℕ) (replies : ℕ) (link link' : Link P C)
    (history history' : List Exchange) → IsSettled port link → (is_in_step link ≡ false → link' ≡ link)
    → ((port link.port).honest ≡ true → (link' ≡ link)
    ⊎ Interrupted out replies replies (port link.port) (port link'.port))
    → (length out ≤ 260 → replies ≤ 4096 → is_in_step link' ≡ false)
    → IsHonestFor out replies (over_port further (port link.port) history)
    → Stops out (over_port further (port link.port) history) (over_port further (port link'.port) history')
stops_over {P} {C} further port out replies link link' history history' settled silent interrupted fits honest =
    let Ends : Link P C → Type 0 = λ (now : Link P C).
    Stops out (over_port further (port link.port) history) (over_port further (port now.port) history') in
    elim (cases_Bool (is_in_step link)) [
      | inr lost ↦
          subst Ends (sym (silent lost))
          (stops_silent further out (port link.port) history history' (settled.spent honest.honest lost))
      | inl in_step ↦ elim honest.fits [
        | inl unlimited ↦ absurd (false≢true unlimited)
        | inr short ↦ elim (interrupted honest.honest) [
          | inr cut ↦
              stops_cut further out replies (port link.port) (port link'.port) history history'
              (cut.few_left short.0 short.1 (omega arith)) cut
          | inl same ↦
              absurd (false≢true (sym (fits short.0 short.1) ∙ ap (λ (l : Link P C). is_in_step l) same ∙ in_step))
        ]
      ]
    ]
