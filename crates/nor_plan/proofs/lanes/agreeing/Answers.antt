use Rattle.std.proofs.Common.{◌*◌, inl, inr, arith}
use Rattle.std.proofs.lemmas.Bool.{cases_lt}
use Rattle.nor_plan.proofs.Blocks.{ShowsDifferences-none}
use Rattle.nor_plan.proofs.lanes.agreeing.Goals as goal

pub loop-block-preserved : goal.loop-block-preserved
loop-block-preserved c k from before =
    let at = c.loop-block.block * 256 in
    elim (cases_lt k at) [
      | inl earlier ↦ c.loop-block.invariant k from earlier
      | inr here ↦ ShowsDifferences-none c.args.a.now c.args.b.now at 256 c.changes_256.result c.changes_256.ensures c.if-changes_256-ne0.false k here (omega arith)
    ]
