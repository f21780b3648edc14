use Rattle.std.proofs.Common.{arith, length}
use Rattle.std.proofs.lemmas.Grind.{common_steps}
use Rattle.std.specs.Prelude.{drop}
use Rattle.nor_model.specs.Step.{done_of, reply_byte, Does}
use Rattle.nor_model.proofs.Steps.{determined_as}
use Rattle.nor_chip.specs.Flash.{chip_of}
use Rattle.nor_chip.proofs.sim.flash.Flash.step.Goals as goal

pub returns-clause-steps : goal.returns-clause-steps
returns-clause-steps c =
    let old = chip_of c.args.self.now in
    let command = done_of old c.args.out.now (length c.answer.new.reply) in
    let does : Does command (drop 4 c.args.out.now) old c.answer.new.reply (chip_of c.change.new.self) =
    grind (arith, common_steps) in
    record {
      replies = determined_as old.config c.args.out.now c.answer.new.reply (reply_byte old command) does.replies;
      config = does.config;
      bytes = does.bytes;
      kept = does.kept;
      busy = does.busy;
      latch = does.latch;
      running = does.running;
    }
