use Rattle.std.proofs.Common.{rules, arith}
use Rattle.nor_chip.proofs.AtStops.{stops_as}
use Rattle.nor_chip.proofs.sim.SimBusBus.transfer.Goals as goal

pub returns-then-self-eq0-clause-law : goal.returns-then-self-eq0-clause-law
returns-then-self-eq0-clause-law c = record {
  nature = search rules;
  stops = λ honest. record {
    none_left = λ punctual. grind (arith, c.if-self-eq0.true);
    left = λ punctual. c.cut.ensures.bus.left;
    at_stop = stops_as _ c.args.self.now c.stopped-self.result _ c.cut.ensures.at_stop;
  };
  unread = λ honest punctual. search rules;
  carries = search rules;
  records = search rules;
}
