use Rattle.std.proofs.Common.{◌*◌, ◌/◌, length, arith}
use Rattle.nor_plan.proofs.Blocks.{ShowsDifferences-zeros, ShowsDifferences-or, ShowsDifferences-tested}
use Rattle.nor_plan.proofs.lanes.blocks_differ.Goals as goal

pub loop-block-init : goal.loop-block-init
loop-block-init c = ShowsDifferences-zeros c.args.a.now c.args.b.now 0

pub loop-block-preserved : goal.loop-block-preserved
loop-block-preserved c =
    ShowsDifferences-or _ _ (omega arith) (omega arith) c.loop-block.invariant c.changes_256-changes.ensures

pub returns : goal.returns
returns c =
    ShowsDifferences-tested c.args.a.now c.args.b.now (c.loop-block.block * 256) (length c.args.a.now / 256 * 256)
    c.loop-block.changes c.loop-block.invariant (omega arith)
