use Rattle.std.specs.Prelude.{◌≡◌, ◌≢◌, ◌<◌, ◌≤◌, ℕ, Bool, true, false, ◌&&◌, nat_le, nat_lt, min, max, if◌then◌else◌, Option, Some, None, MatchOption, List, [], ◌∷◌, ◌++◌, length, slice_index, Result, Ok, Err, ⊤}
use Rattle.std.specs.Str.{bytes_eq}
use Rattle.std.specs.List.{list_any}
use Rattle.nor_layout.specs.declared.fault.LayoutFault.{LayoutFault}
use Rattle.nor_layout.specs.declared.fault.LayoutFault.TheVariants.{Memory}
use Rattle.nor_layout.specs.declared.ranges.Span.{Span}
use Rattle.nor_layout.specs.declared.region.Region.{Region}
use Rattle.nor_layout.specs.Included.{names_of, has_address}
use Rattle.nor_layout.specs.Ranges.{is_in_span, contains}

pub record IsFirst (byte : ℕ) (text : List ℕ) (at : ℕ) : Type 0 where
  pub within : at < length text
  pub here : slice_index text at ≡ byte
  pub before : (k : ℕ) → k < at → slice_index text k ≢ byte

-- Holds if adding a line may have this result: that of `with_line` (`said`), or `Memory` if the line adds a region.
abbrev pub AddsRegion : (old new : List Region) → Result ⊤ LayoutFault → Result (List Region) LayoutFault → Type 0
AddsRegion old new (Ok x) said = said ≡ Ok new
AddsRegion old new (Err Memory) said = (region : Region) × (said ≡ Ok (old ++ region ∷ []))
AddsRegion old new (Err fault) said = said ≡ Err fault

abbrev pub is_listed : (text name : List ℕ) → Bool
is_listed text name = list_any (λ listed. bytes_eq name listed) (names_of text)

abbrev pub is_listed_address : List Region → List ℕ → ℕ → Bool
is_listed_address regions text address =
    list_any (λ region. is_listed text region.name.items && has_address region address) regions

abbrev pub join : (a b : Span) → Span
join a b = record { first = min a.first b.first; last = max a.last b.last }

abbrev pub EndBelow : (done : ℕ) → List Span → Type 0
EndBelow done spans = (address : ℕ) → done ≤ address → contains spans address ≡ false

-- Holds if `next` isn't empty and lies in `spans`, reaches `done`, and begins at or below each address of `spans` from
-- `done` on.
pub record IsNext (done : ℕ) (spans : List Span) (next : Span) : Type 0 where
  pub forward : next.first ≤ next.last
  pub reaches : done ≤ next.last
  pub taken : (address : ℕ) → is_in_span next address ≡ true → contains spans address ≡ true
  pub least : (address : ℕ) → done ≤ address → contains spans address ≡ true → next.first ≤ address

abbrev pub IsNextOrNone : (done : ℕ) → List Span → Option Span → Type 0
IsNextOrNone done spans next = MatchOption next (EndBelow done spans) (IsNext done spans)

abbrev pub first_of : Option Span → Span → Option Span
first_of None span = Some span
first_of (Some next) span = if nat_le next.first span.first then Some next else Some span

abbrev pub sooner : Option Span → Span → (done : ℕ) → Option Span
sooner next span done = if nat_lt span.last done then next else first_of next span
