use Rattle.std.proofs.Common.{take}
use Rattle.nor_layout.specs.Steps.{IsNextOrNone}
use Rattle.nor_layout.proofs.ranges.next_span.Given as goal

-- For the spans read so far: `next` reaches `done` and begins at or below each of their addresses from `done` on, or
-- `next` is `None` because these spans have no address from `done` on.
abbrev pub invariant-loop-span : goal.invariant-loop-span
invariant-loop-span l = IsNextOrNone l.done (take l.span-index l.spans) l.next
