-- The addresses that a request includes, by sector. Sector `s` has the 4,096 addresses from `4096 * s` on.
use Rattle.std.specs.Prelude.{◌≡◌, ℕ, ◌+◌, ◌*◌, ◌/◌, ◌<◌, ◌≤◌, Bool, true, false, List, slice_index, Option, Some, None, if◌then◌else◌}
use Rattle.nor_layout.specs.declared.ranges.Span.{Span}
use Rattle.nor_geometry.specs.Below.{any_below, count_below}
use Rattle.nor_layout.specs.Ranges.{contains}

abbrev pub includes : Option (List Span) → (address : ℕ) → Bool
includes None address = true
includes (Some spans) address = contains spans address

abbrev pub SomeInSector : (set : ℕ → Bool) → (sector : ℕ) → Type 0
SomeInSector set sector = (i : ℕ) × (i < 4096) × (set (4096 * sector + i) ≡ true)

abbrev pub NoneInSector : (set : ℕ → Bool) → (sector : ℕ) → Type 0
NoneInSector set sector = (i : ℕ) → i < 4096 → set (4096 * sector + i) ≡ false

abbrev pub has_in_sector : (set : ℕ → Bool) → (sector : ℕ) → Bool
has_in_sector set sector = any_below 4096 (λ i. set (4096 * sector + i))

abbrev pub sectors_included : Option (List Span) → (size : ℕ) → ℕ
sectors_included included size = count_below (size / 4096) (has_in_sector (includes included))

abbrev pub ReachesPast : Option (List Span) → (size : ℕ) → Type 0
ReachesPast None size = ⊥
ReachesPast (Some spans) size = (address : ℕ) × (size ≤ address) × (contains spans address ≡ true)

abbrev pub FitsInto : Option (List Span) → (size : ℕ) → Type 0
FitsInto included size = ¬ ReachesPast included size

abbrev pub merged_byte : (ℕ → Bool) → (image content : ℕ → ℕ) → ℕ → ℕ
merged_byte included image content a = if included a then image a else content a

abbrev pub AreOfSector : (ℕ → ℕ) → ℕ → List ℕ → Type 0
AreOfSector content sector bytes = (i : ℕ) → i < 4096 → slice_index bytes i ≡ content (4096 * sector + i)
