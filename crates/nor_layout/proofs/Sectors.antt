use Rattle.std.proofs.Common.{◌≡◌, ◌∙◌, ℕ, ◌+◌, ◌*◌, ◌/◌, ◌%◌, ◌≤◌, Bool, true, ◌&&◌, leb, max, List, [], ◌∷◌, Option}
use Rattle.std.proofs.Common.{Some, ap, inl, inr, arith}
use Rattle.std.specs.Prelude.{MatchBool}
use Rattle.std.specs.List.{list_any}
use Rattle.std.proofs.lemmas.Bool.{cases_Bool, both_ways, leb-true}
use Rattle.std.proofs.lemmas.Bool.Decides.{nat_tests}
use Rattle.nor_layout.specs.declared.ranges.Span.{Span}
use Rattle.nor_layout.specs.Ranges.{is_in_span, contains, AreDisjoint}
use Rattle.nor_layout.specs.Sectors.{includes, sectors_included, has_in_sector, ReachesPast}
use Rattle.nor_geometry.proofs.Below.{same_tests, any_below-some, any_below-found, count_below-most}

any_span : (test : Span → Bool) (Kind : ℕ → Type 0)
    → ((span : Span) → span.first ≤ span.last → test span ≡ true → (a : ℕ) × Kind a × (is_in_span span a ≡ true))
    → (spans : List Span) → AreDisjoint spans → list_any test spans ≡ true → (a : ℕ) × Kind a × (contains spans a ≡ true)
any_span test Kind has [] apart h = absurd (cc)
any_span test Kind has (span ∷ spans) apart h = grind (arith, has span apart.0, any_span test Kind has spans apart.2)

some_span : (test : Span → Bool) (a : ℕ) → ((span : Span) → is_in_span span a ≡ true → test span ≡ true)
    → (spans : List Span) → contains spans a ≡ true → list_any test spans ≡ true
some_span test a passes [] h = h
some_span test a passes (span ∷ spans) h = grind (arith, passes span, some_span test a passes spans)

abbrev pub ends_from : ℕ → Span → Bool
ends_from size span = leb size span.last

pub size_cases : (spans : List Span) (size : ℕ) → AreDisjoint spans
    → MatchBool (list_any (ends_from size) spans) (ReachesPast (Some spans) size) (¬ ReachesPast (Some spans) size)
size_cases spans size apart = elim (cases_Bool (list_any (ends_from size) spans)) [
  | inl some ↦ rw some (any_span (ends_from size) (λ a. size ≤ a)
      (λ span forward ends. (span.last, leb-true size span.last ends, grind (arith, nat_tests))) spans apart some)
  | inr none ↦ rw none (λ reaches. both_ways _ none
      (some_span (ends_from size) reaches.0 (λ span here. grind (arith, nat_tests, reaches.1)) spans reaches.2))
]

abbrev pub is_in_sector : ℕ → Span → Bool
is_in_sector sector span = leb (span.first / 4096) sector && leb sector (span.last / 4096)

pub in_sector-is : (spans : List Span) (sector : ℕ) → AreDisjoint spans → list_any (is_in_sector sector) spans ≡ has_in_sector (contains spans) sector
in_sector-is spans sector apart =
    same_tests (list_any (is_in_sector sector) spans) (has_in_sector (contains spans) sector)
    (λ yes.
    let h = any_span (is_in_sector sector) (λ a. a / 4096 ≡ sector)
    (λ span forward here. (max span.first (sector * 4096), grind (arith, nat_tests), grind (arith, nat_tests)))
    spans apart yes in
    let place : 4096 * sector + h.0 % 4096 ≡ h.0 = omega (arith, h.1) in
    any_below-some 4096 (h.0 % 4096) (λ i. contains spans (4096 * sector + i)) (omega arith) (ap (contains spans) place ∙ h.2))
    (λ yes.
    let h = any_below-found 4096 (λ i. contains spans (4096 * sector + i)) yes in
    let below = h.1 in
    some_span (is_in_sector sector) (4096 * sector + h.0) (λ span here. grind (arith, nat_tests)) spans h.2)

pub sectors_included-most : (included : Option (List Span)) (size : ℕ) → sectors_included included size ≤ size / 4096
sectors_included-most included size = count_below-most (size / 4096) (has_in_sector (includes included))
