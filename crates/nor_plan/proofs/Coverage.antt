-- If a set lies on a chip (`IsPlannable`), the planned erases erase exactly its sectors, and the chip supports them.
use Rattle.std.proofs.Common.{ℕ, ◌≡◌, ◌<◌, ◌≤◌, ◌+◌, ◌-◌, ◌%◌, Bool, true, ◌&&◌, ◌||◌, List, [], ◌∷◌, map, filter, get_or, refl, sym, ap, ◌∙◌, inl, inr, arith}
use Rattle.std.specs.List.{list_any, range_with_len}
use Rattle.std.proofs.lemmas.Bool.{cases_Bool, cases_lt, and_parts, and_from, le-leb, leb-true, lt-ltb, ltb-true}
use Rattle.std.proofs.lemmas.List.Elements.{All-map, All-weaker, filter_passes}
use Rattle.std.proofs.lemmas.List.Folds.{list_any_at, Any-from_list_any}
use Rattle.std.proofs.lemmas.List.FromFn.{length-range_with_len, get_or-range_with_len}
use Rattle.nor_model.specs.declared.config.Kinds.{Kinds}
use Rattle.nor_driver.specs.declared.units.EraseBlock.{EraseBlock}
use Rattle.nor_driver.specs.declared.units.EraseBlock.TheVariants.{Sector, Block32, Block64, Chip}
use Rattle.nor_driver.specs.Units.{sectors_in, erases_sector}
use Rattle.nor_geometry.proofs.Below.{same_tests}
use Rattle.nor_plan.specs.Erase.{is_offered, IsErase, Covers}
use Rattle.nor_plan.specs.Planned.{holds_run, planned_block, begins_block, erase_at, planned_from}
use Rattle.nor_plan.proofs.Units.{holds_run-at, first_of, first_of-once, first_of-aligned, first_of-holds, IsLargest, planned_block-largest, planned_block-first}

pub record IsPlannable (whole : Bool) (total : ℕ) (set : ℕ → Bool) : Type 0 where
  pub whole_is : whole ≡ holds_run set 0 total
  pub below : (s : ℕ) → set s ≡ true → s < total
  pub small : (s : ℕ) → set s ≡ true → s < 4096

pub begins_in : (whole : Bool) (kinds : Kinds) (set : ℕ → Bool) (q : ℕ) → begins_block whole kinds set q ≡ true
    → set q ≡ true
begins_in whole kinds set q begins = (and_parts _ _ begins).0

list_any-kept : {X : Type 0} (p : X → Bool) (f : ℕ → X) (test : ℕ → Bool) (ks : List ℕ)
    → list_any p (map f (filter test ks)) ≡ list_any (λ k. test k && p (f k)) ks
list_any-kept p f test [] = refl
list_any-kept p f test (k ∷ ks) = elim (cases_Bool (test k)) [
  | inl passes ↦ rw passes (ap (λ b. p (f k) || b) (list_any-kept p f test ks))
  | inr fails ↦ rw fails (list_any-kept p f test ks)
]

module _ (whole : Bool) (kinds : Kinds) (total : ℕ) (set : ℕ → Bool) (can : IsPlannable whole total set) where
  largest_offered : (q : ℕ) (unit : EraseBlock) → IsLargest whole kinds set q unit → is_offered kinds unit ≡ true
  largest_offered q Sector largest = refl
  largest_offered q Block32 largest = (and_parts _ _ largest.2).0
  largest_offered q Block64 largest = (and_parts _ _ largest.1).0
  largest_offered q Chip largest = refl

  largest_within : (q : ℕ) → set q ≡ true → (unit : EraseBlock) → IsLargest whole kinds set q unit
      → (s : ℕ) → first_of unit q ≤ s → s < first_of unit q + sectors_in total unit → set s ≡ true
  largest_within q member Sector largest s = λ low high. let same : s ≡ q = omega arith in rw same member
  largest_within q member Block32 largest s = holds_run-at set (q - q % 8) 8 (and_parts _ _ largest.2).1 s
  largest_within q member Block64 largest s = holds_run-at set (q - q % 16) 16 (and_parts _ _ largest.1).1 s
  largest_within q member Chip largest s = holds_run-at set 0 total (sym can.whole_is ∙ largest) s

  unit_within : (q : ℕ) → begins_block whole kinds set q ≡ true
      → (s : ℕ) → q ≤ s → s < q + sectors_in total (planned_block whole kinds set q) → set s ≡ true
  unit_within q begins s low high =
      let unit = planned_block whole kinds set q in
      let first : first_of (planned_block whole kinds set q) q ≡ q =
      first_of-once total unit q q (and_parts _ _ begins).1 (omega arith) (omega arith) in
      largest_within q (begins_in whole kinds set q begins) unit (planned_block-largest whole kinds set q) s
      (omega arith) (omega arith)

  planned_IsErase : (q : ℕ) → begins_block whole kinds set q ≡ true → IsErase kinds total (erase_at whole kinds set q)
  planned_IsErase q begins = record {
    offered = largest_offered q _ (planned_block-largest whole kinds set q);
    aligned = (and_parts _ _ begins).1;
    within =
        let here : q < total = can.below q (begins_in whole kinds set q begins) in
        let count = sectors_in total (planned_block whole kinds set q) in
        let last = q + (count - 1) in
        let inside : 0 < count → q + (count - 1) < total =
        λ some. can.below last (unit_within q begins last (omega arith) (omega arith)) in
        elim (cases_lt 0 count) [ inl some ↦ omega (arith, inside some) | inr none ↦ omega arith ];
  }

  unit_begins : (s : ℕ) → set s ≡ true
      → (q : ℕ) × (begins_block whole kinds set q ≡ true)
      × (q ≤ s) × (s < q + sectors_in total (planned_block whole kinds set q))
  unit_begins s member =
      let unit = planned_block whole kinds set s in
      let largest = planned_block-largest whole kinds set s in
      let same = planned_block-first whole kinds set s unit largest in
      let holds = first_of-holds total unit s (can.below s member) in
      let here : set (first_of unit s) ≡ true =
      largest_within s member unit largest (first_of unit s) (omega arith) (omega arith) in
      (first_of unit s, and_from _ _ here (rw same (first_of-aligned unit s)), holds.0, rw same holds.1)

  planned_union : (from : ℕ) → from ≡ 0 → (s : ℕ)
      → list_any (erases_sector total s) (planned_from whole kinds set from) ≡ set s
  unfolding planned_from
  planned_union from start s =
      let sectors : List ℕ = range_with_len from (4096 - from) in
      list_any-kept (erases_sector total s) (erase_at whole kinds set) (begins_block whole kinds set) sectors
      ∙ same_tests _ _
      (λ some.
      let found = Any-from_list_any _ sectors some in
      let parts = and_parts _ _ found.4 in
      let holds = and_parts _ _ parts.1 in
      unit_within found.1 parts.0 s (leb-true _ _ holds.0) (ltb-true _ _ holds.1))
      (λ member.
      let unit = unit_begins s member in
      let small : unit.0 < 4096 = can.small unit.0 (begins_in whole kinds set unit.0 unit.1) in
      let at : get_or (range_with_len from (4096 - from)) unit.0 0 ≡ unit.0 =
      get_or-range_with_len from (4096 - from) unit.0 0 (omega arith) ∙ omega arith in
      list_any_at _ sectors unit.0 0 (omega (arith, length-range_with_len from (4096 - from)))
      (rw at (and_from _ _ unit.1 (and_from _ _ (le-leb _ _ unit.2) (lt-ltb _ _ unit.3)))))

  pub planned_Covers : (from : ℕ) → from ≡ 0 → Covers kinds total (planned_from whole kinds set from) set
  unfolding planned_from
  planned_Covers from start = record {
    units = All-map (IsErase kinds total) (erase_at whole kinds set) _
        (All-weaker (λ q. begins_block whole kinds set q ≡ true) (λ q. IsErase kinds total (erase_at whole kinds set q))
        planned_IsErase _ (filter_passes (begins_block whole kinds set) (range_with_len from (4096 - from))));
    union = planned_union from start;
  }
