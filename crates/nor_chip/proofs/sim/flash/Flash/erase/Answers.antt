use Rattle.std.proofs.Common.{arith}
use Rattle.std.proofs.lemmas.Grind.{common_steps}
use Rattle.nor_chip.proofs.sim.flash.Flash.erase.Goals as goal

pub returns-clause-does : goal.returns-clause-does
returns-clause-does c = search (arith, common_steps, c.fill.ensures, c.begin.ensures.begins.bytes)
