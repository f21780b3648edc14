use Rattle.std.proofs.Common.{◌≡◌, ◌≤◌, [], length, drop}
use Rattle.nor_args.specs.Text.{pieces_of}
use Rattle.nor_args.proofs.Listed.{with_stops}
use Rattle.nor_args.proofs.stops.read_stops.Given as goal

abbrev pub invariant-loop-number : goal.invariant-loop-number
invariant-loop-number l =
    (goal.iterator-loop-number).can_next l.number-iterator
    × (goal.iterator-loop-number).is_finite l.number-iterator
    × (length l.stops.items ≤ 64)
    × (with_stops l.stops.items (drop (length l.yielded) (pieces_of l.text)) ≡ with_stops [] (pieces_of l.text))
