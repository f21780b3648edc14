use Rattle.std.proofs.Common.{◌*◌}
use Rattle.nor_plan.specs.Mask.{ShowsDifferences}
use Rattle.nor_plan.proofs.lanes.changes_256.Given as goal

abbrev pub invariant-loop-part : goal.invariant-loop-part
invariant-loop-part l = ShowsDifferences l.fn.a l.fn.b l.at (l.part * 32) l.changes
