use Rattle.std.proofs.Common.{bit_and, get_or, ◌*◌, ◌+◌, arith, w64}
use Rattle.std.specs.Int.{trailing_zeros}
use Rattle.nor_plan.proofs.Masks.{first_in_block, passed_before}
use Rattle.nor_plan.proofs.lanes.raises.Goals as goal

pub returns-then-rising-ne0 : goal.returns-then-rising-ne0
returns-then-rising-ne0 c =
    let at = c.loop-block.block * 32 in
    let found = first_in_block (λ k. bit_and (get_or c.args.target.now k 0) (get_or c.args.old.now k 0))
    (λ k. get_or c.args.target.now k 0) at _ c.rising.ensures (omega arith) in
    (at + trailing_zeros w64 c.rising.result, omega (arith, found.0), found.1)

pub loop-block-preserved : goal.loop-block-preserved
loop-block-preserved c k before =
    passed_before (λ j. bit_and (get_or c.args.target.now j 0) (get_or c.args.old.now j 0))
    (λ j. get_or c.args.target.now j 0) (c.loop-block.block * 32) _ c.rising.ensures c.loop-block.invariant c.if-rising-ne0.false k (omega arith)
