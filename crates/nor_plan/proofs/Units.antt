use Rattle.std.proofs.Common.{ℕ, ◌≡◌, ◌<◌, ◌≤◌, ◌+◌, ◌-◌, ◌%◌, Bool, true, false, ◌&&◌, refl, sym, ap, ◌∙◌, inl, inr, arith}
use Rattle.std.specs.List.{range_with_len}
use Rattle.std.proofs.lemmas.Bool.{cases_Bool, both_ways, eq-eqb, eqb-true}
use Rattle.std.proofs.lemmas.List.FromFn.{length-range_with_len, get_or-range_with_len}
use Rattle.std.proofs.lemmas.List.Sums.{AllPass-from_list_all, list_all-from_AllPass}
use Rattle.nor_model.specs.declared.config.Kinds.{Kinds}
use Rattle.nor_driver.specs.declared.units.EraseBlock.{EraseBlock}
use Rattle.nor_driver.specs.declared.units.EraseBlock.TheVariants.{Sector, Block32, Block64, Chip}
use Rattle.nor_driver.specs.Units.{sectors_in, is_aligned}
use Rattle.nor_plan.specs.Planned.{holds_run, holds_block, planned_block}

pub holds_run-at : (set : ℕ → Bool) (from count : ℕ) → holds_run set from count ≡ true → (s : ℕ) → from ≤ s
    → s < from + count → set s ≡ true
unfolding holds_run
holds_run-at set from count holds s low high =
    let place : from + (s - from) ≡ s = omega arith in
    let there : s - from < count = omega arith in
    let passes = AllPass-from_list_all set (range_with_len from count) holds (s - from) 0
    (omega (arith, length-range_with_len from count)) in
    ap set (sym place ∙ sym (get_or-range_with_len from count (s - from) 0 there)) ∙ passes

pub holds_run-from : (set : ℕ → Bool) (from count : ℕ) → ((s : ℕ) → from ≤ s → s < from + count → set s ≡ true)
    → holds_run set from count ≡ true
unfolding holds_run
holds_run-from set from count all = list_all-from_AllPass set (range_with_len from count) (λ k d within.
    let there : k < count = omega (arith, length-range_with_len from count) in
    ap set (get_or-range_with_len from count k d there) ∙ all (from + k) (omega arith) (omega arith))

abbrev pub first_of : EraseBlock → ℕ → ℕ
first_of Sector s = s
first_of Block32 s = s - s % 8
first_of Block64 s = s - s % 16
first_of Chip s = 0

pub first_of-once : (total : ℕ) (unit : EraseBlock) (first s : ℕ) → is_aligned unit first ≡ true → first ≤ s
    → s < first + sectors_in total unit → first_of unit s ≡ first
first_of-once total Sector first s aligned low high = omega arith
first_of-once total Block32 first s aligned low high = omega (arith, eqb-true)
first_of-once total Block64 first s aligned low high = omega (arith, eqb-true)
first_of-once total Chip first s aligned low high = omega (arith, eqb-true)

pub first_of-aligned : (unit : EraseBlock) (s : ℕ) → is_aligned unit (first_of unit s) ≡ true
first_of-aligned Sector s = refl
first_of-aligned Block32 s = eq-eqb _ _ (omega arith)
first_of-aligned Block64 s = eq-eqb _ _ (omega arith)
first_of-aligned Chip s = refl

pub first_of-holds : (total : ℕ) (unit : EraseBlock) (s : ℕ) → s < total
    → (first_of unit s ≤ s) × (s < first_of unit s + sectors_in total unit)
first_of-holds total Sector s below = (omega arith, omega arith)
first_of-holds total Block32 s below = (omega arith, omega arith)
first_of-holds total Block64 s below = (omega arith, omega arith)
first_of-holds total Chip s below = (omega arith, omega arith)

module _ (whole : Bool) (kinds : Kinds) (set : ℕ → Bool) where
  -- For a sector `s` of `set`: true if the chip supports erase blocks of the given kind, and the aligned block of this
  -- kind with `s` lies in `set`. For the kind `Chip`: true if `whole` is true.
  abbrev pub is_fit : ℕ → EraseBlock → Bool
  is_fit s Sector = true
  is_fit s Block32 = kinds.k32 && holds_block set 8 s
  is_fit s Block64 = kinds.k64 && holds_block set 16 s
  is_fit s Chip = whole

  abbrev pub IsLargest : ℕ → EraseBlock → Type 0
  IsLargest s Chip = whole ≡ true
  IsLargest s Block64 = (whole ≡ false) × (is_fit s Block64 ≡ true)
  IsLargest s Block32 = (whole ≡ false) × (is_fit s Block64 ≡ false) × (is_fit s Block32 ≡ true)
  IsLargest s Sector = (whole ≡ false) × (is_fit s Block64 ≡ false) × (is_fit s Block32 ≡ false)

  pub planned_block-largest : (s : ℕ) → IsLargest s (planned_block whole kinds set s)
  unfolding planned_block
  planned_block-largest s = elim (cases_Bool whole) [
    | inl w ↦ rw w
    | inr w ↦ elim (cases_Bool (is_fit s Block64)) [
      | inl wide ↦ rw (w, wide) (refl, wide)
      | inr b ↦ elim (cases_Bool (is_fit s Block32)) [
        | inl narrow ↦ rw (w, b, narrow) (refl, b, narrow)
        | inr n ↦ rw (w, b, n) (refl, b, n)
      ]
    ]
  ]

  pub planned_block-first : (s : ℕ) (unit : EraseBlock) → IsLargest s unit
      → planned_block whole kinds set (first_of unit s) ≡ unit
  unfolding planned_block
  planned_block-first s Chip largest = rw largest
  planned_block-first s Block64 largest =
      let same : (s - s % 16) - (s - s % 16) % 16 ≡ s - s % 16 = omega arith in
      rw (largest.0, same, largest.1)
  planned_block-first s Block32 largest =
      let wide : (s - s % 8) - (s - s % 8) % 16 ≡ s - s % 16 = omega arith in
      let same : (s - s % 8) - (s - s % 8) % 8 ≡ s - s % 8 = omega arith in
      rw (largest.0, wide, largest.1, same, largest.2)
  planned_block-first s Sector largest = rw (largest.0, largest.1, largest.2)

  pub larger_begins : (s : ℕ) (unit largest : EraseBlock) → is_fit s unit ≡ true → IsLargest s largest
      → is_aligned largest s ≡ true → first_of unit s ≡ s
  larger_begins s Sector _ fit is aligned = refl
  larger_begins s Block32 Sector fit is aligned = absurd (both_ways _ is.2 fit)
  larger_begins s Block64 Sector fit is aligned = absurd (both_ways _ is.1 fit)
  larger_begins s Block64 Block32 fit is aligned = absurd (both_ways _ is.1 fit)
  larger_begins s Chip Sector fit is aligned = absurd (both_ways _ is.0 fit)
  larger_begins s Chip Block32 fit is aligned = absurd (both_ways _ is.0 fit)
  larger_begins s Chip Block64 fit is aligned = absurd (both_ways _ is.0 fit)
  larger_begins s unit largest fit is aligned = omega (arith, eqb-true)
