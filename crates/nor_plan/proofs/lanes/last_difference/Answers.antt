use Rattle.std.proofs.Common.{get_or, ◌*◌, ◌+◌, ◌-◌, inl, inr, arith}
use Rattle.std.proofs.lemmas.Bool.{cases_lt}
use Rattle.nor_plan.proofs.Masks.{last_in_block, passed_block}
use Rattle.nor_plan.proofs.lanes.last_difference.Goals as goal

pub returns-then-mask-ne0 : goal.returns-then-mask-ne0
returns-then-mask-ne0 c =
    let at = (c.loop-block.block - 1) * 32 in
    let found = last_in_block (λ k. get_or c.args.a.now k 0) (λ k. get_or c.args.b.now k 0) at _
    c.differing-mask.ensures c.ilog2.result c.ilog2.ensures.power_le c.ilog2.ensures.next_power_gt in
    record {
      within = omega (arith, found.0);
      differs = found.1;
      after = λ k after within. elim (cases_lt k (at + 32)) [
        | inl here ↦ found.2 k after here
        | inr later ↦ c.loop-block.invariant k (omega arith) within
      ];
    }

pub loop-block-preserved : goal.loop-block-preserved
loop-block-preserved c k from within =
    let at = (c.loop-block.block - 1) * 32 in
    elim (cases_lt k (at + 32)) [
      | inl here ↦ passed_block (λ j. get_or c.args.a.now j 0) (λ j. get_or c.args.b.now j 0) at _
          c.differing-mask.ensures c.if-mask-ne0.false k from here
      | inr later ↦ c.loop-block.invariant k (omega arith) within
    ]
