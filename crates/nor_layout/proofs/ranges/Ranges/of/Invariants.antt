use Rattle.std.proofs.Common.{◌≡◌, ◌≤◌, ◌&&◌, ◌-◌, ltb, ℕ, length}
use Rattle.nor_layout.specs.Ranges.{contains, AreDisjoint}
use Rattle.nor_layout.proofs.ranges.Ranges.of.Given as goal

-- The set `all` has exactly those addresses of the spans that are below `done`.
abbrev pub invariant-loop-next : goal.invariant-loop-next
invariant-loop-next l = record {
  few : length l.all.items ≤ 64;
  apart : AreDisjoint l.all.items;
  same : (a : ℕ) → contains l.all.items a ≡ (ltb a l.done && contains l.spans a);
  below : l.done ≤ 4294967296;
}

abbrev pub decreases-loop-next : goal.decreases-loop-next
decreases-loop-next l = 4294967296 - l.done
