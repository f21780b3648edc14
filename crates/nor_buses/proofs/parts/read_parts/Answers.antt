use Rattle.std.proofs.Common.{◌∙◌, arith}
use Rattle.std.proofs.lemmas.Grind.{common_steps}
use Rattle.nor_buses.proofs.ReadParts.{nature_then}
use Rattle.nor_buses.proofs.Splits.{read_more, read_stopped}
use Rattle.nor_buses.proofs.parts.read_parts.Goals as goal

pub returns-in_err-read_part-clause-parts : goal.returns-in_err-read_part-clause-parts
returns-in_err-read_part-clause-parts g c =
    let was = c.loop-done.invariant in
    read_stopped _ _ _ _ _ _ _ _ _ was.read was.within (grind (arith, common_steps)) c.in_err-read_part.ensures.stopped

pub returns-in_err-read_part-clause-nature : goal.returns-in_err-read_part-clause-nature
returns-in_err-read_part-clause-nature g c =
    nature_then _ _ _ c.loop-done.invariant.nature c.read_part.ensures.nature

pub returns-in_err-read_part-clause-passed : goal.returns-in_err-read_part-clause-passed
returns-in_err-read_part-clause-passed g c = c.read_part.ensures.passed ∙ c.loop-done.invariant.passed

pub loop-done-preserved : goal.loop-done-preserved
loop-done-preserved g c =
    let was = c.loop-done.invariant in record {
      read = read_more _ _ _ _ _ _ _ _ _ _ was.read was.within (grind (arith, common_steps))
          (grind (arith, common_steps)) c.in_ok-read_part.ensures.read;
      nature = nature_then _ _ _ was.nature c.read_part.ensures.nature;
      passed = c.read_part.ensures.passed ∙ was.passed;
      within = grind (arith, common_steps);
    }
