use Rattle.std.proofs.Common.{◌≡◌, ℕ, ◌+◌, ◌-◌, ◌*◌, ◌/◌, ◌<◌, ◌≤◌, ◌||◌, ltb, List, [], ◌∷◌, refl, arith, Bool}
use Rattle.std.specs.List.{cons_option}
use Rattle.std.proofs.lemmas.Bool.{cond_both}
use Rattle.std.proofs.lemmas.Bool.Decides.{nat_tests}
use Rattle.nor_layout.specs.declared.ranges.Span.{Span}
use Rattle.nor_layout.specs.declared.positions.Positions.{Positions}
use Rattle.nor_layout.specs.Ranges.{is_in_span, contains, IsApartFrom, AreDisjoint}
use Rattle.nor_layout.specs.Positions.{is_covered, part_in_sector, parts_in_sector, AreRisingFrom, AreIncludedIn}

abbrev is_outside : ℕ → Span → Bool
is_outside sector span = ltb sector (span.first / 4096) || ltb (span.last / 4096) sector

is_covered-cons : (sector : ℕ) (span : Span) (rest : List Positions) (at : ℕ) → at < 4096
    → is_covered (cons_option (part_in_sector sector span) rest) at
    ≡ (is_in_span span (4096 * sector + at) || is_covered rest at)
is_covered-cons sector span rest at lt = cond_both (is_outside sector span) _ _
    (λ part. is_covered (cons_option part rest) at ≡ (is_in_span span (4096 * sector + at) || is_covered rest at))
    (λ outside. grind (arith, nat_tests)) (λ inside. grind (arith, nat_tests))

is_covered-parts : (sector : ℕ) (spans : List Span) (at : ℕ) → at < 4096
    → is_covered (parts_in_sector sector spans) at ≡ contains spans (4096 * sector + at)
is_covered-parts sector [] at lt = refl
is_covered-parts sector (span ∷ spans) at lt =
    grind (arith, is_covered-cons sector span (parts_in_sector sector spans) at lt, is_covered-parts sector spans at lt)

weaker : (low high : ℕ) (parts : List Positions) → low ≤ high → AreRisingFrom high parts → AreRisingFrom low parts
weaker low high [] le rising = tt
weaker low high (part ∷ parts) le rising = (omega (arith, le, rising.0), rising.1, rising.2, rising.3)

rising-cons : (sector first : ℕ) (span : Span) (rest : List Positions) → first ≤ span.first - 4096 * sector
    → span.first ≤ span.last → AreRisingFrom (span.last + 1 - 4096 * sector) rest
    → AreRisingFrom first (cons_option (part_in_sector sector span) rest)
rising-cons sector first span rest le forward rising = cond_both (is_outside sector span) _ _
    (λ part. AreRisingFrom first (cons_option part rest))
    (λ outside. weaker _ _ rest (omega (arith, le, forward)) rising)
    (λ inside. (
      grind (arith, nat_tests),
      grind (arith, nat_tests),
      grind (arith, nat_tests),
      weaker _ _ rest (grind (arith, nat_tests)) rising,
    ))

parts_rise : (sector : ℕ) (low : Span) (spans : List Span) → IsApartFrom low spans → AreDisjoint spans
    → AreRisingFrom (low.last + 1 - 4096 * sector) (parts_in_sector sector spans)
parts_rise sector low [] from apart = tt
parts_rise sector low (span ∷ spans) from apart =
    rising-cons sector _ span (parts_in_sector sector spans) (omega (arith, from)) apart.0
    (parts_rise sector span spans apart.1 apart.2)

all_rise : (sector : ℕ) (spans : List Span) → AreDisjoint spans → AreRisingFrom 0 (parts_in_sector sector spans)
all_rise sector [] apart = tt
all_rise sector (span ∷ spans) apart = rising-cons sector 0 span (parts_in_sector sector spans) (omega arith) apart.0
    (parts_rise sector span spans apart.1 apart.2)

pub parts_are_included : (sector : ℕ) (spans : List Span) → AreDisjoint spans
    → AreIncludedIn spans sector (parts_in_sector sector spans)
parts_are_included sector spans apart =
    record { exact = is_covered-parts sector spans; rising = all_rise sector spans apart }
