-- If the chip of a `BatchingBus` made one step, or the step was interrupted, the bus meets its contract (`Transfers`).
use Rattle.std.proofs.Common.{◌≡◌, ◌∙◌, ℕ, Bool, true, List, Ok, Err, inl, inr, refl, ap}
use Rattle.std.proofs.lemmas.Bool.{false≢true}
use Rattle.nor_model.specs.declared.bus.Stopped.{Stopped}
use Rattle.nor_model.specs.Chip.{Chip}
use Rattle.nor_model.specs.Exchange.{Exchange}
use Rattle.nor_model.specs.Bus.{SameNature, Records, Transfers}
use Rattle.nor_serprog.specs.Batching.{over_batch}
use Rattle.nor_serprog.specs.Device.{Device, PortState, StepsOnce, IsCut}
use Rattle.nor_serprog.specs.Enabled.{enabled_device}

cut_config : (out : List ℕ) (old new : Device) → IsCut out old new → new.chip.config ≡ old.chip.config
cut_config out old new c = elim c.then.chip [
  | inl same ↦ ap (λ (chip : Chip). chip.config) same ∙ c.steps.step.config
  | inr lost ↦ lost.config ∙ c.steps.step.config
]

module _ (out before answer : List ℕ) (waits waits' further : Bool) (old new : PortState)
    (history history' : List Exchange) where
  nature : new.honest ≡ old.honest
      → (old.honest ≡ true → new.device.chip.config ≡ old.device.chip.config)
      → SameNature (over_batch waits further old history) (over_batch waits' further new history')
  nature same config = record {
    honest = same;
    steady = refl;
    unlimited = refl;
    longer = refl;
    punctual = refl;
    further = refl;
    config = config;
  }

  pub law_ok : new.honest ≡ old.honest
      → (old.honest ≡ true
      → StepsOnce out answer (enabled_device waits old.device) (enabled_device waits' new.device))
      → Records out answer (Ok tt) (over_batch waits further old history) (over_batch waits' further new history')
      → Transfers out before answer (Ok tt) (over_batch waits further old history)
      (over_batch waits' further new history')
  law_ok same steps records = record {
    nature = nature same (λ honest. (steps honest).step.config);
    stops = λ fits. tt;
    unread = λ fits punctual. tt;
    carries = λ fits.
        let made = steps fits.honest in
        record { left = λ punctual. absurd (false≢true punctual); step = made.step; worn = made.worn };
    records = records;
  }

  pub law_err : (stopped : Stopped) → new.honest ≡ old.honest
      → (old.honest ≡ true
      → IsCut out (enabled_device waits old.device) (enabled_device waits' new.device))
      → Records out answer (Err stopped) (over_batch waits further old history)
      (over_batch waits' further new history')
      → Transfers out before answer (Err stopped) (over_batch waits further old history)
      (over_batch waits' further new history')
  law_err stopped same cut records = record {
    nature = nature same (λ honest.
        cut_config out (enabled_device waits old.device) (enabled_device waits' new.device) (cut honest));
    stops = λ fits.
        let c = cut fits.honest in
        record {
          none_left = λ punctual. absurd (false≢true punctual);
          left = λ punctual. absurd (false≢true punctual);
          at_stop = record {
            count = c.count;
            read = c.read;
            reached = c.reached.chip;
            step = c.steps.step;
            chip = c.then.chip;
            worn = λ s. c.then.worn s ∙ c.steps.worn s;
            none = λ steady. absurd (false≢true steady);
            unsent = λ steady. absurd (false≢true steady);
          };
        };
    unread = λ fits punctual. absurd (false≢true punctual);
    carries = λ fits. tt;
    records = records;
  }
