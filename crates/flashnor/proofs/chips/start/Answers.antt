use Rattle.std.proofs.Common.{◌∙◌, is_none}
use Rattle.std.proofs.Math.Bool.{and-true}
use Rattle.flashnor.proofs.Ready.{opens_held}
use Rattle.flashnor.proofs.chips.start.Goals as goal

pub returns : goal.returns
returns c = record {
  opens = opens_held c.args.programmer.now c.args.content _ _ _ c.hold-bus.ensures.held c.unwrap_or.ensures
      (rw (c.lose.ensures.state, c.hold-bus.ensures.torn, and-true (is_none c.args.programmer.now.power))
      at c.allow.ensures.allows);
  pace = c.allow.ensures.pace ∙ c.lose.ensures.pace ∙ c.hold-bus.ensures.pace;
  fill = c.allow.ensures.fill ∙ c.lose.ensures.fill;
}
