use Rattle.std.specs.Prelude.{ℕ, ◌≡◌, ◌==◌, ◌<◌, ◌-◌, ◌/◌, ◌%◌, Bool, true, false, List, length, slice_index, filter, ◌||◌}
use Rattle.std.specs.Int.{bit_at}
use Rattle.std.specs.List.{range_with_len}
use Rattle.nor_plan.specs.declared.set.SectorSet.{SectorSet}

unfoldable pub has : SectorSet → ℕ → Bool
has set sector = bit_at (slice_index set.words (sector / 64)) (sector % 64) == 1

abbrev pub IsEmpty : SectorSet → Type 0
IsEmpty set = (sector : ℕ) → has set sector ≡ false

abbrev pub HasSome : SectorSet → Type 0
HasSome set = (sector : ℕ) × (has set sector ≡ true)

abbrev pub LiesBelow : SectorSet → ℕ → Type 0
LiesBelow set end = (sector : ℕ) → has set sector ≡ true → sector < end

abbrev pub Inserts : (old new : SectorSet) → ℕ → Type 0
Inserts old new sector = (s : ℕ) → has new s ≡ ((s == sector) || has old s)

unfoldable pub members_from : SectorSet → ℕ → List ℕ
members_from set from = filter (has set) (range_with_len from (4096 - from))

abbrev pub members : SectorSet → List ℕ
members set = members_from set 0

abbrev pub member_count : SectorSet → ℕ
member_count set = length (members set)

abbrev pub none : ℕ → Bool
none s = false
