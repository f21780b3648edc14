use Rattle.std.proofs.Common.{ℕ, ◌≡◌, ◌*◌, ◌<◌, ◌≤◌, get_or, length}
use Rattle.nor_plan.proofs.lanes.last_difference.Given as goal

abbrev pub invariant-loop-at : goal.invariant-loop-at
invariant-loop-at l = (k : ℕ) → l.at ≤ k → k < length l.fn.a → get_or l.fn.a k 0 ≡ get_or l.fn.b k 0

abbrev pub invariant-loop-block : goal.invariant-loop-block
invariant-loop-block l = (k : ℕ) → l.block * 32 ≤ k → k < length l.fn.a → get_or l.fn.a k 0 ≡ get_or l.fn.b k 0
