use Rattle.std.proofs.Common.{arith}
use Rattle.std.proofs.lemmas.Grind.{common_steps}
use Rattle.nor_buses.proofs.ReadParts.{nature_then}
use Rattle.nor_buses.proofs.PassedLater.{parts_before, then_enabled, first_passed, next_passed}
use Rattle.nor_buses.proofs.Splits.{then_waits, then_enables, programs_first, programs_next, programs_not}
use Rattle.nor_buses.proofs.parts.program_parts.Goals as goal

pub returns-in_err-program_part-clause-parts : goal.returns-in_err-program_part-clause-parts
returns-in_err-program_part-clause-parts g c =
    programs_not _ _ _ _ _ _ _ (programs_first _ _ _ c.min-done.result _ _ _ _ (grind (arith, common_steps)) (grind (arith, common_steps)) (grind (arith, common_steps))
    (grind (arith, common_steps)) c.program_part.ensures.history) (grind (arith, common_steps))

pub loop-done-init : goal.loop-done-init
loop-done-init g c = record {
  programs = programs_first _ _ _ _ _ _ _ _ (grind (arith, common_steps)) (grind (arith, common_steps)) (grind (arith, common_steps))
      (grind (arith, common_steps)) c.program_part.ensures.history;
  nature = c.program_part.ensures.nature;
  within = grind (arith, common_steps);
  passed = first_passed _ c.min-done.result _ _ _ _ c.requires.address (grind (arith, common_steps))
      (grind (arith, common_steps)) c.program_part.ensures.passed;
}

pub returns-in_err-program_part-clause-passed : goal.returns-in_err-program_part-clause-passed
returns-in_err-program_part-clause-passed g c =
    first_passed _ c.min-done.result _ _ _ _ c.requires.address (grind (arith, common_steps))
    (grind (arith, common_steps)) c.program_part.ensures.passed

pub returns-in_err-wait-clause-passed : goal.returns-in_err-wait-clause-passed
returns-in_err-wait-clause-passed g c = parts_before _ _ _ _ c.loop-done.invariant.passed c.wait.ensures.passed

pub returns-in_err-transfer-clause-passed : goal.returns-in_err-transfer-clause-passed
returns-in_err-transfer-clause-passed g c =
    then_enabled _ _ _ _ (parts_before _ _ _ _ c.loop-done.invariant.passed c.wait.ensures.passed)
    c.transfer.ensures.records.passed

pub returns-in_err-program_part-2-clause-passed : goal.returns-in_err-program_part-2-clause-passed
returns-in_err-program_part-2-clause-passed g c =
    next_passed _ _ c.min-len.result _ _ _ _ _
    (then_enabled _ _ _ _ (parts_before _ _ _ _ c.loop-done.invariant.passed c.wait.ensures.passed)
    c.transfer.ensures.records.passed)
    (grind (arith, common_steps)) (grind (arith, common_steps)) (grind (arith, common_steps))
    c.program_part-in-loop-done.ensures.passed

pub returns-in_err-wait-clause-nature : goal.returns-in_err-wait-clause-nature
returns-in_err-wait-clause-nature g c =
    nature_then _ _ _ c.loop-done.invariant.nature c.wait.ensures.nature

pub returns-in_err-transfer-clause-nature : goal.returns-in_err-transfer-clause-nature
returns-in_err-transfer-clause-nature g c =
    nature_then _ _ _ c.loop-done.invariant.nature
    (nature_then _ _ _ c.wait.ensures.nature c.transfer.ensures.nature)

pub returns-in_err-program_part-2-clause-nature : goal.returns-in_err-program_part-2-clause-nature
returns-in_err-program_part-2-clause-nature g c =
    nature_then _ _ _ c.loop-done.invariant.nature
    (nature_then _ _ _ c.wait.ensures.nature
    (nature_then _ _ _ c.transfer.ensures.nature c.program_part-in-loop-done.ensures.nature))

pub returns-in_err-wait-clause-parts : goal.returns-in_err-wait-clause-parts
returns-in_err-wait-clause-parts g c =
    programs_not _ _ _ _ _ _ _ (then_waits _ _ _ _ _ _ _ _ c.loop-done.invariant.programs c.wait.ensures.waits)
    (grind (arith, common_steps))

pub returns-in_err-transfer-clause-parts : goal.returns-in_err-transfer-clause-parts
returns-in_err-transfer-clause-parts g c =
    programs_not _ _ _ _ _ _ _
    (then_enables _ _ _ _ _ _ _ _ _ _ _ c.loop-done.invariant.programs c.in_ok-wait.ensures.waits
    c.transfer.ensures.records.history) (grind (arith, common_steps))

pub returns-in_err-program_part-2-clause-parts : goal.returns-in_err-program_part-2-clause-parts
returns-in_err-program_part-2-clause-parts g c =
    let enabled = then_enables _ _ _ _ _ _ _ _ _ _ _ c.loop-done.invariant.programs c.in_ok-wait.ensures.waits
    c.transfer.ensures.records.history in
    programs_not _ _ _ _ _ _ _
    (programs_next _ _ _ _ c.min-len.result _ _ _ _ _ _ _ enabled c.in_ok-transfer.ensures.records.history
    (grind (arith, common_steps)) (grind (arith, common_steps)) (grind (arith, common_steps)) (grind (arith, common_steps)) (grind (arith, common_steps))
    c.program_part-in-loop-done.ensures.history) (grind (arith, common_steps))

pub loop-done-preserved : goal.loop-done-preserved
loop-done-preserved g c =
    let enabled = then_enables _ _ _ _ _ _ _ _ _ _ _ c.loop-done.invariant.programs c.in_ok-wait.ensures.waits
    c.transfer.ensures.records.history in record {
      programs = programs_next _ _ _ _ _ _ _ _ _ _ _ _ enabled c.in_ok-transfer.ensures.records.history
          (grind (arith, common_steps)) (grind (arith, common_steps)) (grind (arith, common_steps)) (grind (arith, common_steps)) (grind (arith, common_steps))
          c.program_part-in-loop-done.ensures.history;
      nature = nature_then _ _ _ c.loop-done.invariant.nature
          (nature_then _ _ _ c.wait.ensures.nature
          (nature_then _ _ _ c.transfer.ensures.nature c.program_part-in-loop-done.ensures.nature));
      within = grind (arith, common_steps);
      passed = next_passed _ _ c.min-len.result _ _ _ _ _
          (then_enabled _ _ _ _ (parts_before _ _ _ _ c.loop-done.invariant.passed c.wait.ensures.passed)
          c.transfer.ensures.records.passed)
          (grind (arith, common_steps)) (grind (arith, common_steps)) (grind (arith, common_steps))
          c.program_part-in-loop-done.ensures.passed;
    }
