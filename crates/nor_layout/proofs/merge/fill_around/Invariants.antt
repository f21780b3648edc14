use Rattle.std.proofs.Common.{◌≡◌, ◌<◌, ◌≤◌, ℕ, slice_index, if◌then◌else◌}
use Rattle.nor_layout.specs.Positions.{is_covered, AreRisingFrom, positions_left}
use Rattle.nor_layout.proofs.merge.fill_around.Given as goal

-- The bytes below index `done` have their final values, and the bytes from `done` on are unchanged.
abbrev pub invariant-loop-part : goal.invariant-loop-part
invariant-loop-part l = record {
  reached : l.done ≤ 4096;
  rising : AreRisingFrom l.done (positions_left l.part-iterator);
  left : (at : ℕ) → l.done ≤ at → is_covered (positions_left l.part-iterator) at ≡ is_covered (positions_left l.fn.positions) at;
  filled : (at : ℕ) → at < l.done → slice_index l.bytes at ≡ (if is_covered (positions_left l.fn.positions) at then slice_index l.fn.bytes at else slice_index l.other at);
  others : (at : ℕ) → l.done ≤ at → slice_index l.bytes at ≡ slice_index l.fn.bytes at;
}
