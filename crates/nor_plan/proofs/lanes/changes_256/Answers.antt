use Rattle.std.proofs.Common.{◌≡◌, ◌*◌, arith}
use Rattle.nor_plan.proofs.Blocks.{ShowsDifferences-zeros, ShowsDifferences-or}
use Rattle.nor_plan.proofs.lanes.changes_256.Goals as goal

pub loop-part-init : goal.loop-part-init
loop-part-init c = ShowsDifferences-zeros c.args.a.now c.args.b.now c.args.at

pub loop-part-preserved : goal.loop-part-preserved
loop-part-preserved c =
    ShowsDifferences-or _ _ (omega arith) (omega arith) c.loop-part.invariant c.changes_32-changes.ensures

pub returns : goal.returns
returns c = let all : c.loop-part.part * 32 ≡ 256 = omega arith in rw all at c.loop-part.invariant
