use Rattle.std.proofs.Common.{inl, inr, arith}
use Rattle.std.proofs.lemmas.Grind.{common_steps}
use Rattle.std.proofs.lemmas.Bool.{cases_lt}
use Rattle.nor_model.proofs.Round.{run_on, run_round, written_before, written_within}
use Rattle.nor_chip.proofs.sim.cells.read_round.Goals as goal

pub loop-done-preserved : goal.loop-done-preserved
loop-done-preserved c =
    let was = c.loop-done.invariant in
    let place = was.place c.loop-done-test.true in
    record {
      read = λ i small. elim (cases_lt i c.loop-done.done) [
        | inl before ↦ grind (arith, common_steps, written_before, was.read i before)
        | inr later ↦ grind (arith, common_steps, written_within, run_on _ _ i _ _ place later)
      ];
      within = grind (arith, common_steps);
      from_in = grind (arith, common_steps);
      place = λ more. grind (arith, common_steps, run_round _ _ _ _ place was.from_in);
    }
