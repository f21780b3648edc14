use Rattle.std.specs.Prelude.{ℕ, Bool}
use Rattle.nor_geometry.specs.Below.{count_below}

-- The number of sectors from 0 to 4,095 that are in the set. The largest chip has 4,096 sectors.
abbrev pub sector_count : (ℕ → Bool) → ℕ
sector_count sectors = count_below 4096 sectors
