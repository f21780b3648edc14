use Rattle.std.specs.Prelude.{◌≡◌, ℕ, ◌+◌, ◌*◌, ◌/◌, ◌%◌, ◌<◌, ◌≤◌, Bool, ◌&&◌, ◌||◌, nat_le, nat_lt, if◌then◌else◌, List, [], ◌∷◌, Option, Some, None, ⊤}
use Rattle.std.specs.List.{list_any, filter_map}
use Rattle.nor_layout.specs.declared.ranges.Span.{Span}
use Rattle.nor_layout.specs.declared.positions.Positions.{Positions}
use Rattle.nor_layout.specs.declared.positions.PositionsIn.{PositionsIn}
use Rattle.nor_layout.specs.Ranges.{contains}

abbrev pub is_in_positions : Positions → ℕ → Bool
is_in_positions positions at = nat_le positions.start at && nat_lt at positions.end

abbrev pub is_covered : List Positions → ℕ → Bool
is_covered all at = list_any (λ positions. is_in_positions positions at) all

abbrev pub AreRisingFrom : ℕ → List Positions → Type 0
AreRisingFrom first [] = ⊤
AreRisingFrom first (positions ∷ more) =
    (first ≤ positions.start) × (positions.start < positions.end) × (positions.end ≤ 4096)
    × AreRisingFrom positions.end more

pub record AreIncludedIn (spans : List Span) (sector : ℕ) (all : List Positions) : Type 0 where
  pub exact : (at : ℕ) → at < 4096 → is_covered all at ≡ contains spans (4096 * sector + at)
  pub rising : AreRisingFrom 0 all

abbrev pub part_in_sector : ℕ → Span → Option Positions
part_in_sector sector span =
    if nat_lt sector (span.first / 4096) || nat_lt (span.last / 4096) sector then None
    else Some (record {
      start = if nat_lt (span.first / 4096) sector then 0 else span.first % 4096;
      end = if nat_lt sector (span.last / 4096) then 4096 else span.last % 4096 + 1;
    })

abbrev pub parts_in_sector : ℕ → List Span → List Positions
parts_in_sector sector spans = filter_map (part_in_sector sector) spans

abbrev pub positions_left : PositionsIn → List Positions
positions_left it = parts_in_sector it.sector it.spans.now
