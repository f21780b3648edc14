use Rattle.std.specs.Prelude.{◌≡◌, ◌⊎◌, ℕ, ◌+◌, ◌<◌, ◌≤◌, Bool, true, ◌&&◌, nat_le, nat_lt, List, [], ◌∷◌, length, ⊤}
use Rattle.std.specs.List.{list_any}
use Rattle.nor_layout.specs.declared.ranges.Span.{Span}

abbrev pub is_in_span : Span → (address : ℕ) → Bool
is_in_span span address = nat_le span.first address && nat_le address span.last

abbrev pub contains : (spans : List Span) → (address : ℕ) → Bool
contains spans address = list_any (λ span. is_in_span span address) spans

abbrev pub IsApartFrom : Span → List Span → Type 0
IsApartFrom span [] = ⊤
IsApartFrom span (next ∷ spans) = span.last + 1 < next.first

-- Holds if no span ends before it begins, the spans ascend, and at least one address is between each two neighbours.
abbrev pub AreDisjoint : List Span → Type 0
AreDisjoint [] = ⊤
AreDisjoint (span ∷ spans) = (span.first ≤ span.last) × IsApartFrom span spans × AreDisjoint spans

pub record AreRanges (spans : List Span) : Type 0 where
  pub few : length spans ≤ 64
  pub apart : AreDisjoint spans

abbrev pub has_backwards : List Span → Bool
has_backwards spans = list_any (λ span. nat_lt span.last span.first) spans

pub record IsSetOf (spans set : List Span) : Type 0 where
  pub ranges : AreRanges set
  pub same : (address : ℕ) → contains set address ≡ contains spans address

-- Holds if a span ends before it begins, or no list of at most 64 disjoint spans has the same addresses.
abbrev pub MakeNoSet : List Span → Type 0
MakeNoSet spans = (has_backwards spans ≡ true) ⊎ ((set : List Span) → ¬ IsSetOf spans set)
