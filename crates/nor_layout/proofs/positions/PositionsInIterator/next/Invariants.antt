use Rattle.std.proofs.Common.{◌≡◌, length}
use Rattle.nor_layout.specs.Positions.{positions_left}
use Rattle.nor_layout.proofs.positions.PositionsInIterator.next.Given as goal

-- No span that was skipped has an address in the sector.
abbrev pub invariant-loop-first : goal.invariant-loop-first
invariant-loop-first l = positions_left l.self ≡ positions_left l.initial.self

abbrev pub decreases-loop-first : goal.decreases-loop-first
decreases-loop-first l = length l.self.spans.now
