-- No list of erases that covers a set on a chip (`IsPlannable`) is shorter than the planned one. The planned erases
-- begin at different sectors, and each covering list has an erase that begins at each of these sectors.
use Rattle.std.proofs.Common.{ℕ, ◌≡◌, ◌<◌, ◌≤◌, ◌+◌, ◌-◌, ◌%◌, ◌&&◌, Bool, true, false, cond, nat_eq, List, length, map, filter, get_or, refl, sym, ap, ◌∙◌, arith}
use Rattle.std.specs.List.{range_with_len, list_any, IsDistinct}
use Rattle.std.proofs.lemmas.Cmp.{nat_eq_equiv}
use Rattle.std.proofs.lemmas.Bool.{and_parts, and_from, eq-eqb, eqb-true, ne_eqb, le-leb, leb-true, lt-ltb, ltb-true}
use Rattle.std.proofs.lemmas.List.{length-map, get_or-map}
use Rattle.std.proofs.lemmas.List.Folds.{list_any_at, Any-from_list_any}
use Rattle.std.proofs.lemmas.List.FromFn.{length-range_with_len, get_or-range_with_len}
use Rattle.std.proofs.lemmas.List.Kept.{AllPairs-from_increasing, IsStrictlyIncreasing-filter}
use Rattle.std.proofs.lemmas.List.Sums.{length-filter, sum_by-le-sum_by}
use Rattle.std.proofs.lemmas.Map.Keys.{IsDistinct-from_apart}
use Rattle.std.proofs.lemmas.Map.Made.{length-le_from_is_member, is_member-filter}
use Rattle.nor_model.specs.declared.config.Kinds.{Kinds}
use Rattle.nor_driver.specs.declared.units.Erase.{Erase}
use Rattle.nor_plan.specs.declared.set.SectorSet.{SectorSet}
use Rattle.nor_plan.specs.SectorSet.{has, members_from}
use Rattle.nor_driver.specs.declared.units.EraseBlock.{EraseBlock}
use Rattle.nor_driver.specs.declared.units.EraseBlock.TheVariants.{Sector, Block32, Block64, Chip}
use Rattle.nor_driver.specs.Units.{sectors_in, is_aligned, erases_sector}
use Rattle.nor_plan.specs.Erase.{is_offered, Covers}
use Rattle.nor_plan.specs.Planned.{holds_run, planned_block, begins_block, erase_at, planned_from, planned, fewest_erases, IsLeastLength}
use Rattle.nor_plan.proofs.Units.{holds_run-from, first_of, first_of-once, is_fit, larger_begins, planned_block-largest}
use Rattle.nor_plan.proofs.Coverage.{IsPlannable, planned_Covers, begins_in}

IsDistinct-filtered : (test : ℕ → Bool) (from count : ℕ) → IsDistinct nat_eq (filter test (range_with_len from count))
IsDistinct-filtered test from count =
    let place = get_or-range_with_len from count in
    let rising = IsStrictlyIncreasing-filter test (range_with_len from count) (λ k within.
    let there : k + 1 < count = omega (arith, length-range_with_len from count) in
    omega (arith, place k 0 (omega arith), place (k + 1) 0 there)) in
    IsDistinct-from_apart nat_eq _ (λ i j d before within.
    let less = AllPairs-from_increasing (filter test (range_with_len from count)) rising i j d before within in
    ne_eqb _ _ (λ same. omega arith))

abbrev sector : Erase → ℕ
sector erase = erase.sector

module _ (whole : Bool) (kinds : Kinds) (total : ℕ) (set : ℕ → Bool) (can : IsPlannable whole total set) where
  within_fit : (unit : EraseBlock) (q : ℕ) → is_offered kinds unit ≡ true
      → ((s : ℕ) → first_of unit q ≤ s → s < first_of unit q + sectors_in total unit → set s ≡ true)
      → is_fit whole kinds set q unit ≡ true
  within_fit Sector q offered inside = refl
  within_fit Block32 q offered inside = and_from _ _ offered (holds_run-from set (q - q % 8) 8 inside)
  within_fit Block64 q offered inside = and_from _ _ offered (holds_run-from set (q - q % 16) 16 inside)
  within_fit Chip q offered inside = can.whole_is ∙ holds_run-from set 0 total inside

  begins_alike : (q : ℕ) → begins_block whole kinds set q ≡ true → (unit : EraseBlock) (first : ℕ)
      → is_offered kinds unit ≡ true → is_aligned unit first ≡ true
      → ((s : ℕ) → first ≤ s → s < first + sectors_in total unit → set s ≡ true)
      → first ≤ q → q < first + sectors_in total unit → q ≡ first
  begins_alike q begins unit first offered aligned inside low high =
      let start = first_of-once total unit first q aligned low high in
      let fit = within_fit unit q offered (λ s from to. inside s (omega arith) (omega arith)) in
      sym (larger_begins whole kinds set q unit _ fit (planned_block-largest whole kinds set q) (and_parts _ _ begins).1)
      ∙ start

  some_begins : (others : List Erase) → Covers kinds total others set → (q : ℕ) → begins_block whole kinds set q ≡ true
      → list_any (nat_eq q) (map sector others) ≡ true
  some_begins others covers q begins =
      let erased = covers.union q ∙ begins_in whole kinds set q begins in
      let found = Any-from_list_any (erases_sector total q) others erased in
      let erase = get_or others found.0 found.1 in
      let is = covers.units found.0 found.1 found.2 in
      let holds = and_parts _ _ (ap (erases_sector total q) found.3 ∙ found.4) in
      let inside = λ (s : ℕ) (low : erase.sector ≤ s) (high : s < erase.sector + sectors_in total erase.unit).
      sym (covers.union s) ∙ list_any_at (erases_sector total s) others found.0 found.1 found.2
      (and_from _ _ (le-leb _ _ low) (lt-ltb _ _ high)) in
      let same = begins_alike q begins erase.unit erase.sector is.offered is.aligned inside
      (leb-true _ _ holds.0) (ltb-true _ _ holds.1) in
      list_any_at (nat_eq q) (map sector others) found.0 q (omega (arith, length-map others sector, found.2))
      (eq-eqb _ _ (same ∙ sym (get_or-map sector others found.0 found.1 q found.2)))

  pub planned_fewest : (from : ℕ) (others : List Erase) → Covers kinds total others set
      → length (planned_from whole kinds set from) ≤ length others
  unfolding planned_from
  planned_fewest from others covers =
      let sectors : List ℕ = range_with_len from (4096 - from) in
      let begins : ℕ → Bool = begins_block whole kinds set in
      let few : length (filter begins sectors) ≤ length (map sector others) =
      length-le_from_is_member nat_eq_equiv (filter begins sectors) (map sector others)
      (IsDistinct-filtered begins from (4096 - from)) (λ q member.
      let kept = is_member-filter nat_eq_equiv begins q (λ s same. ap begins (eqb-true q s same)) sectors in
      some_begins others covers q (and_parts (list_any (nat_eq q) sectors) (begins q) (sym kept ∙ member)).1) in
      omega (arith, length-map others sector, length-map (filter begins sectors) (erase_at whole kinds set))

pub planned_few : (whole : Bool) (kinds : Kinds) (set : SectorSet) (from : ℕ)
    → length (planned_from whole kinds (has set) from) ≤ length (members_from set from)
unfolding planned_from members_from
planned_few whole kinds set from =
    let sectors : List ℕ = range_with_len from (4096 - from) in
    let begins : ℕ → Bool = begins_block whole kinds (has set) in
    let fewer = sum_by-le-sum_by (λ s. cond (begins s) 1 0) (λ s. cond (has set s) 1 0) sectors
    (λ s. both_le (has set s) (is_aligned (planned_block whole kinds (has set) s) s)) in
    let listed = length-map (filter begins sectors) (erase_at whole kinds (has set)) in
    omega (arith, listed, length-filter begins sectors, length-filter (has set) sectors, fewer)
  where
    both_le : (a b : Bool) → cond (a && b) 1 0 ≤ cond a 1 0
    both_le true true = omega arith
    both_le true false = omega arith
    both_le false b = omega arith

pub fewest_least : (kinds : Kinds) (total : ℕ) (set : ℕ → Bool) → total ≤ 4096 → ((s : ℕ) → set s ≡ true → s < total)
    → IsLeastLength kinds total set (fewest_erases kinds total set)
fewest_least kinds total set few below =
    let can : IsPlannable (holds_run set 0 total) total set = record {
      whole_is = refl;
      below = below;
      small = λ s member. let inside = below s member in omega arith;
    } in
    record {
      some = planned kinds total set;
      covers = planned_Covers (holds_run set 0 total) kinds total set can 0 refl;
      reached = refl;
      least = planned_fewest (holds_run set 0 total) kinds total set can 0;
    }
