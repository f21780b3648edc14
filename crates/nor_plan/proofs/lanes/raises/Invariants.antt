use Rattle.std.proofs.Common.{ℕ, ◌≡◌, ◌*◌, ◌<◌, bit_and, get_or}
use Rattle.nor_plan.proofs.lanes.raises.Given as goal

abbrev pub invariant-loop-block : goal.invariant-loop-block
invariant-loop-block l = (k : ℕ) → k < l.block * 32 → bit_and (get_or l.fn.target k 0) (get_or l.fn.old k 0) ≡ get_or l.fn.target k 0

abbrev pub invariant-loop-at : goal.invariant-loop-at
invariant-loop-at l = (k : ℕ) → k < l.at → bit_and (get_or l.fn.target k 0) (get_or l.fn.old k 0) ≡ get_or l.fn.target k 0
