use Rattle.std.proofs.Common.{◌≡◌, length}
use Rattle.nor_maps.specs.Fmap.{first_fmap}
use Rattle.nor_maps.proofs.fmap.find_fmap.Given as goal

abbrev pub invariant-loop-rest : goal.invariant-loop-rest
invariant-loop-rest l = first_fmap l.rest ≡ first_fmap l.bytes

abbrev pub decreases-loop-rest : goal.decreases-loop-rest
decreases-loop-rest l = length l.rest
