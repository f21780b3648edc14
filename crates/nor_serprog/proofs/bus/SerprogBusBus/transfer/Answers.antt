use Rattle.std.proofs.Common.{rules, length}
use Rattle.nor_serprog.proofs.Stops.{stops_over}
use Rattle.nor_serprog.proofs.bus.SerprogBusBus.transfer.Goals as goal

pub returns-then-was_in_step-clause-law : goal.returns-then-was_in_step-clause-law
returns-then-was_in_step-clause-law g c = record {
  nature = search rules;
  stops = stops_over c.args.self.now.further g.P.Port.state c.args.out.now (length c.args.reply.now) c.args.self.now.link c.carry.new.link _ _
      c.args.self.now.idle c.in-Err.ensures.silent c.in-Err.ensures.interrupted c.in-Err.ensures.fits;
  unread = λ honest punctual. search rules;
  carries = search rules;
  records = search rules;
}

pub returns-else-was_in_step-clause-law : goal.returns-else-was_in_step-clause-law
returns-else-was_in_step-clause-law g c = record {
  nature = search rules;
  stops = stops_over c.args.self.now.further g.P.Port.state c.args.out.now (length c.args.reply.now) c.args.self.now.link c.carry.new.link _ _
      c.args.self.now.idle c.in-Err.ensures.silent c.in-Err.ensures.interrupted c.in-Err.ensures.fits;
  unread = λ honest punctual. search rules;
  carries = search rules;
  records = search rules;
}
