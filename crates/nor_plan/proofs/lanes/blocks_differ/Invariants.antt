use Rattle.std.proofs.Common.{◌*◌}
use Rattle.nor_plan.specs.Mask.{ShowsDifferences}
use Rattle.nor_plan.proofs.lanes.blocks_differ.Given as goal

abbrev pub invariant-loop-block : goal.invariant-loop-block
invariant-loop-block l = ShowsDifferences l.fn.a l.fn.b 0 (l.block * 256) l.changes
