use Rattle.std.proofs.Common.{◌≡◌, ◌≤◌, ℕ, length, take}
use Rattle.nor_layout.specs.Ranges.{AreRanges, contains}
use Rattle.nor_layout.specs.Steps.{is_listed_address}
use Rattle.nor_layout.proofs.layout.listed_ranges.Given as goal

abbrev pub invariant-loop-region : goal.invariant-loop-region
invariant-loop-region l = record {
  few : length l.ranges ≤ l.region-index;
  kept : AreRanges l.ranges;
  union : (address : ℕ) → contains l.ranges address ≡ is_listed_address (take l.region-index l.regions) l.names address;
}
