use Rattle.std.proofs.Common.{◌≡◌, ◌≤◌, ◌++◌, length, drop}
use Rattle.nor_layout.proofs.Spans.{merged}
use Rattle.nor_layout.proofs.ranges.with_span.Given as goal

-- The final result is the finished spans `all`, followed by the result of adding `last` to the spans not read yet.
abbrev pub invariant-loop-span : goal.invariant-loop-span
invariant-loop-span l = record {
  few : length l.all.items ≤ l.span-index;
  same : l.all.items ++ merged l.last (drop l.span-index l.spans) ≡ merged l.fn.added l.spans;
}
