use Rattle.std.proofs.Common.{◌*◌}
use Rattle.nor_plan.specs.Bytes.{AgreeWithin}
use Rattle.nor_plan.proofs.lanes.agreeing.Given as goal

abbrev pub invariant-loop-block : goal.invariant-loop-block
invariant-loop-block l = AgreeWithin l.fn.a l.fn.b 0 (l.block * 256)
