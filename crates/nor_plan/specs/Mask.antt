use Rattle.std.specs.Prelude.{ℕ, ◌≡◌, ◌≢◌, ◌<◌, ◌^◌, ◌+◌, List, length, slice_index, Bool, if◌then◌else◌}
use Rattle.std.specs.Int.{bit_at}
use Rattle.nor_plan.specs.Bytes.{AgreeWithin, SomeDiffer}

pub record IsMask (mask : ℕ) (test : ℕ → Bool) : Type 0 where
  pub lanes : mask < 2 ^ 32
  pub bits : (i : ℕ) → i < 32 → bit_at mask i ≡ (if test i then 1 else 0)

-- Holds if `lanes` are 32 numbers with two properties: if all are 0, `a` and `b` agree in the `count` bytes from
-- position `at` on; if one isn't 0, `a` and `b` differ at some position (anywhere).
pub record ShowsDifferences (a b : List ℕ) (at count : ℕ) (lanes : List ℕ) : Type 0 where
  pub long : length lanes ≡ 32
  pub none : ((i : ℕ) → i < 32 → slice_index lanes i ≡ 0) → AgreeWithin a b at (at + count)
  pub some : (i : ℕ) → i < 32 → slice_index lanes i ≢ 0 → SomeDiffer a b
