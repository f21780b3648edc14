use Rattle.std.proofs.Common.{ℕ, ◌≡◌, ◌*◌, ◌<◌, get_or}
use Rattle.nor_plan.proofs.lanes.first_from.Given as goal

abbrev pub invariant-loop-block : goal.invariant-loop-block
invariant-loop-block l = (k : ℕ) → k < l.block * 32 → get_or l.fn.a k 0 ≡ get_or l.fn.b k 0

abbrev pub invariant-loop-at : goal.invariant-loop-at
invariant-loop-at l = (k : ℕ) → k < l.at → get_or l.fn.a k 0 ≡ get_or l.fn.b k 0
