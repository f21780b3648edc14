use Rattle.std.proofs.Common.{◌≡◌, ◌∙◌, ℕ, true≢false, List, [], Option, None, Some, is_none, refl, arith, inl, inr, subst, sym}
use Rattle.std.specs.Prelude.{◌&&◌}
use Rattle.std.proofs.Math.Bool.{or-false}
use Rattle.nor_model.specs.Chip.{Chip}
use Rattle.nor_model.specs.declared.history.History.{History}
use Rattle.nor_model.proofs.Steps.{nothing_sent}
use Rattle.nor_model.specs.Power.{PowerLost, PowerLostWith}
use Rattle.nor_model.specs.Bus.{BusState, AtStop}
use Rattle.nor_chip.specs.declared.sim.SimBus.{SimBus}
use Rattle.nor_chip.specs.Sim.{sim_state, TornTo, WornTo, LostTo}

pub power_lost : (fill : ℕ) (old new : Chip) → PowerLostWith fill old new → PowerLost old new
power_lost fill old new lost = grind (arith, lost.bytes)

pub stops_at : (torn fill : Option ℕ) (out : List ℕ) (old new : BusState) (reached : Chip)
    → old.steady ≡ (is_none fill && is_none torn) → TornTo torn out old.chip reached → LostTo fill reached new.chip
    → WornTo torn out old.chip old.worn new.worn → AtStop out old new
stops_at None None out old new reached steady torn lost worn = record {
  count = 0;
  read = [];
  reached = old.chip;
  step = nothing_sent old.chip;
  chip = inl (lost ∙ torn);
  worn = λ s. worn s ∙ sym (or-false (old.worn s));
  none = λ is. refl;
  unsent = λ is. lost ∙ torn;
}
stops_at None (Some fill) out old new reached steady torn lost worn = record {
  count = 0;
  read = [];
  reached = old.chip;
  step = nothing_sent old.chip;
  chip = inr (power_lost fill old.chip new.chip (subst (λ (c : Chip). PowerLostWith fill c new.chip) torn lost));
  worn = λ s. worn s ∙ sym (or-false (old.worn s));
  none = λ is. refl;
  unsent = λ is. absurd (true≢false (sym is ∙ steady));
}
stops_at (Some count) None out old new reached steady torn lost worn = record {
  count = count;
  read = [];
  reached = reached;
  step = torn;
  chip = inl lost;
  worn = worn;
  none = λ is. absurd (true≢false (sym is ∙ steady));
  unsent = λ is. absurd (true≢false (sym is ∙ steady));
}
stops_at (Some count) (Some fill) out old new reached steady torn lost worn = record {
  count = count;
  read = [];
  reached = reached;
  step = torn;
  chip = inr (power_lost fill reached new.chip lost);
  worn = worn;
  none = λ is. absurd (true≢false (sym is ∙ steady));
  unsent = λ is. absurd (true≢false (sym is ∙ steady));
}

pub stops_as : (out : List ℕ) (old : SimBus) (history : History) (new : BusState)
    → AtStop out (sim_state (record old { history = history })) new → AtStop out (sim_state old) new
stops_as out old history new stop = record {
  count = stop.count;
  read = stop.read;
  reached = stop.reached;
  step = stop.step;
  chip = stop.chip;
  worn = stop.worn;
  none = stop.none;
  unsent = stop.unsent;
}
