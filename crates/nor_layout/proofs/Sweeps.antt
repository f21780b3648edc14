-- If more than 64 spans neither overlap nor are adjacent, no set has their addresses, because no shorter list of such
-- spans has the same addresses.
use Rattle.std.proofs.Common.{◌≡◌, ℕ, ◌+◌, ◌<◌, ◌≤◌, true, ◌&&◌, ltb, List, [], ◌∷◌, length, inl, inr, arith}
use Rattle.std.proofs.lemmas.Bool.{false≢true, or_cases}
use Rattle.std.proofs.lemmas.Bool.Decides.{nat_tests}
use Rattle.nor_layout.specs.declared.ranges.Span.{Span}
use Rattle.nor_layout.specs.Ranges.{is_in_span, contains, AreDisjoint, IsSetOf}

first_in : (span : Span) (spans : List Span) → span.first ≤ span.last → contains (span ∷ spans) span.first ≡ true
first_in span spans forward = grind (arith, nat_tests)

above : (span : Span) (spans : List Span) (a : ℕ) → AreDisjoint (span ∷ spans) → contains spans a ≡ true → span.last + 1 < a
above span [] a apart holds = absurd (false≢true holds)
above span (next ∷ spans) a apart holds = grind (arith, nat_tests, above next spans a apart.2)

record AreCut (low limit : ℕ) (few many : List Span) : Type 0 where
  within : (a : ℕ) → contains few a ≡ true → (low ≤ a) × (a < limit)
  into : (a : ℕ) → contains few a ≡ true → contains many a ≡ true
  from : (a : ℕ) → low ≤ a → a < limit → contains many a ≡ true → contains few a ≡ true

module _ (low limit : ℕ) (s : Span) (ss : List Span) (b : Span) (bs : List Span) (apart : AreDisjoint (s ∷ ss))
    (apart_b : AreDisjoint (b ∷ bs)) (cut : AreCut low limit (s ∷ ss) (b ∷ bs)) where
  rests : is_in_span b s.first ≡ true → AreCut (s.last + 1) limit ss bs
  rests begins = record {
    within = λ a holds. grind (arith, nat_tests, above s ss a apart, cut.within a);
    into = λ a holds.
        let high = above s ss a apart holds in
        let gap = above s ss (s.last + 1) apart in
        grind (arith, nat_tests, cut.into a, cut.within a, cut.within s.first, cut.from (s.last + 1));
    from = λ a least most holds. grind (arith, nat_tests, cut.from a, cut.within s.first);
  }

  without : contains bs s.first ≡ true → AreCut low limit (s ∷ ss) bs
  without later =
      let high = λ (a : ℕ). above s ss a apart in
      let past = above b bs s.first apart_b later in
      grind (arith, nat_tests)

length_cut : (low limit : ℕ) (few many : List Span) → AreDisjoint few → AreDisjoint many → AreCut low limit few many
    → length few ≤ length many
length_cut low limit [] many apart apart_many cut = omega arith
length_cut low limit (s ∷ ss) [] apart apart_many cut = absurd (false≢true (cut.into s.first (first_in s ss apart.0)))
length_cut low limit (s ∷ ss) (b ∷ bs) apart apart_many cut =
    elim (or_cases (is_in_span b s.first) (contains bs s.first) (cut.into s.first (first_in s ss apart.0))) [
      | inl here ↦
          let rest = rests low limit s ss b bs apart apart_many cut here in
          omega (arith, length_cut (s.last + 1) limit ss bs apart.2 apart_many.2 rest)
      | inr later ↦
          let rest = without low limit s ss b bs apart apart_many cut later in
          omega (arith, length_cut low limit (s ∷ ss) bs apart apart_many.2 rest)
    ]

pub none_has : (spans all : List Span) (done : ℕ) → AreDisjoint all → 64 < length all
    → ((a : ℕ) → contains all a ≡ (ltb a done && contains spans a)) → (set : List Span) → ¬ IsSetOf spans set
none_has spans all done apart many same set is =
    let cut : AreCut 0 done all set = grind (arith, nat_tests) in
    absurd (omega (arith, many, is.ranges.few, length_cut 0 done all set apart is.ranges.apart cut))
