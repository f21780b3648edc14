use Rattle.std.proofs.Common.{arith, inr}
use Rattle.std.proofs.lemmas.Grind.{common_steps}
use Rattle.nor_buses.proofs.PassedLater.{program_passed}
use Rattle.nor_buses.proofs.parts.split_program.Goals as goal

pub returns-in-2-clause-passed : goal.returns-in-2-clause-passed
returns-in-2-clause-passed g c =
    inr (inr (program_passed c.args.out.now _ _ _ _ (grind (arith, common_steps)) c.in-2.len_at_least
    (grind (arith, common_steps)) (grind (arith, common_steps)) (grind (arith, common_steps))
    c.program_parts.ensures.passed))
