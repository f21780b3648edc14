use Rattle.std.proofs.Common.{◌≡◌, ℕ, ◌+◌, ◌<◌, ◌≤◌, Bool, ◌||◌, cond, ltb, List, [], ◌∷◌, ◌++◌, length, drop, refl}
use Rattle.std.proofs.Common.{arith}
use Rattle.std.proofs.lemmas.Bool.Decides.{nat_tests}
use Rattle.std.proofs.lemmas.List.{at_drop_all}
use Rattle.nor_layout.specs.declared.ranges.Span.{Span}
use Rattle.nor_layout.specs.Ranges.{is_in_span, contains, AreDisjoint}
use Rattle.nor_layout.specs.Steps.{join}

abbrev is_below : Span → Span → Bool
is_below a b = ltb (a.last + 1) b.first

unfoldable pub merged : Span → List Span → List Span
merged new [] = new ∷ []
merged new (span ∷ spans) =
    cond (is_below span new) (span ∷ merged new spans) (cond (is_below new span) (new ∷ merged span spans) (merged (join new span) spans))

contains-merged : (new : Span) (spans : List Span) (address : ℕ) → new.first ≤ new.last → AreDisjoint spans
    → contains (merged new spans) address ≡ (is_in_span new address || contains spans address)
unfolding merged
contains-merged new [] address forward apart = refl
contains-merged new (span ∷ spans) address forward apart =
    let below = contains-merged new spans address forward apart.2 in
    let above = contains-merged span spans address apart.0 apart.2 in
    let joined = contains-merged (join new span) spans address (omega (arith, forward, apart.0)) apart.2 in
    grind (arith, nat_tests)

further : (low span : Span) (spans : List Span) → low.first ≤ low.last → low.last + 1 < span.first
    → AreDisjoint (span ∷ spans) → AreDisjoint (low ∷ spans)
further low span spans forward lt apart = grind arith

apart_after : (low new : Span) (spans : List Span) → low.last + 1 < new.first → new.first ≤ new.last
    → AreDisjoint (low ∷ spans) → AreDisjoint (low ∷ merged new spans)
unfolding merged
apart_after low new [] lt forward apart = (apart.0, lt, (forward, tt, tt))
apart_after low new (span ∷ spans) lt forward apart =
    let below = apart_after span new spans in
    let above = apart_after new span spans in
    let joined = apart_after low (join new span) spans in
    let further_new = further new span spans in
    let further_low = further low span spans in
    grind (arith, nat_tests)

AreDisjoint-merged : (new : Span) (spans : List Span) → new.first ≤ new.last → AreDisjoint spans → AreDisjoint (merged new spans)
unfolding merged
AreDisjoint-merged new [] forward apart = (forward, tt, tt)
AreDisjoint-merged new (span ∷ spans) forward apart =
    let below = apart_after span new spans in
    let above = apart_after new span spans in
    let joined = AreDisjoint-merged (join new span) spans in
    let later = further new span spans in
    grind (arith, nat_tests)

pub merged_all : (front : List Span) (new added : Span) (spans : List Span) (i : ℕ) → length spans ≤ i
    → front ++ merged new (drop i spans) ≡ merged added spans → added.first ≤ added.last → AreDisjoint spans
    → AreDisjoint (front ++ new ∷ [])
    × ((address : ℕ) → contains (front ++ new ∷ []) address ≡ (is_in_span added address || contains spans address))
unfolding merged
merged_all front new added spans i le same forward apart =
    let last : merged new (drop i spans) ≡ new ∷ [] = at_drop_all (merged new) spans i le in
    let is : front ++ new ∷ [] ≡ merged added spans = rw last at same in
    rw is (AreDisjoint-merged added spans forward apart, λ address. contains-merged added spans address forward apart)
