use Rattle.std.proofs.Common.{◌∙◌, refl, sym}
use Rattle.nor_chip.specs.Flash.{chip_of}
use Rattle.nor_chip.proofs.AtStops.{stops_at}
use Rattle.nor_chip.proofs.sim.SimBus.cut.Goals as goal

pub returns-in-Some-clause-at_stop : goal.returns-in-Some-clause-at_stop
returns-in-Some-clause-at_stop c =
    stops_at _ _ _ _ _ (chip_of c.tear_off.new.self.flash) refl c.tear_off.ensures.torn
    (rw (sym c.tear_off.ensures.bus.fill ∙ c.in-Some.is) c.lose_power.ensures.cut) c.tear_off.ensures.worn

pub returns-in-Some-clause-torn_off : goal.returns-in-Some-clause-torn_off
returns-in-Some-clause-torn_off c = record {
  reached = chip_of c.tear_off.new.self.flash;
  torn_off = c.tear_off.ensures.torn;
  lost = rw (sym c.tear_off.ensures.bus.fill ∙ c.in-Some.is) c.lose_power.ensures.cut;
}

pub returns-in_default-clause-at_stop : goal.returns-in_default-clause-at_stop
returns-in_default-clause-at_stop c =
    stops_at _ _ _ _ _ (chip_of c.tear_off.new.self.flash) refl c.tear_off.ensures.torn
    (rw (sym c.tear_off.ensures.bus.fill ∙ c.in_default.is) refl) c.tear_off.ensures.worn

pub returns-in_default-clause-torn_off : goal.returns-in_default-clause-torn_off
returns-in_default-clause-torn_off c = record {
  reached = chip_of c.tear_off.new.self.flash;
  torn_off = c.tear_off.ensures.torn;
  lost = rw (sym c.tear_off.ensures.bus.fill ∙ c.in_default.is) refl;
}
