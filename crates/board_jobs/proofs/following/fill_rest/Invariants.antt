use Rattle.std.proofs.Common.{◌≡◌, ◌<◌, ◌≤◌, ℕ, length, slice_index}
use Rattle.nor_layout.specs.Ranges.{contains}
use Rattle.nor_layout.specs.Sectors.{merged_byte}
use Rattle.board_jobs.proofs.following.fill_rest.Given as goal

abbrev pub invariant-loop-address : goal.invariant-loop-address
invariant-loop-address l = record {
  long : length l.target ≡ length l.chip;
  filled : (a : ℕ) → a < l.address → slice_index l.target a ≡ merged_byte (contains l.included) (slice_index l.fn.target) (slice_index l.chip) a;
  others : (a : ℕ) → l.address ≤ a → slice_index l.target a ≡ slice_index l.fn.target a;
}
