use Rattle.std.proofs.Common.{get_or, ◌*◌, inl, inr, arith}
use Rattle.std.proofs.lemmas.Bool.{cases_lt}
use Rattle.nor_plan.proofs.Masks.{first_in_block, passed_before}
use Rattle.nor_plan.proofs.lanes.first_from.Goals as goal

pub returns-then-mask-ne0 : goal.returns-then-mask-ne0
returns-then-mask-ne0 c =
    let at = c.loop-block.block * 32 in
    let found = first_in_block (λ k. get_or c.args.a.now k 0) (λ k. get_or c.args.b.now k 0) at _
    c.differing-mask.ensures (omega arith) in
    record {
      within = omega (arith, found.0);
      differs = found.1;
      before = λ k before. elim (cases_lt k at) [
        | inl earlier ↦ c.loop-block.invariant k earlier
        | inr here ↦ found.2 k here before
      ];
    }

pub loop-block-preserved : goal.loop-block-preserved
loop-block-preserved c k before =
    passed_before (λ j. get_or c.args.a.now j 0) (λ j. get_or c.args.b.now j 0) (c.loop-block.block * 32) _
    c.differing-mask.ensures c.loop-block.invariant c.if-mask-ne0.false k (omega arith)
