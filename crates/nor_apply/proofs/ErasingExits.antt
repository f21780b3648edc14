use Rattle.std.proofs.Common.{ℕ, ◌≡◌, ◌<◌, ◌≤◌, ◌+◌, ◌*◌, ◌/◌, ◌-◌, ◌∙◌, ◌||◌, Bool, true, false, List, [], ◌∷◌, ◌++◌, length, inl, inr, refl, sym, ap, arith}
use Rattle.std.proofs.lemmas.Bool.{cases_lt, or_cases, false_from_ne_true, and_from, le-leb, lt-ltb}
use Rattle.std.proofs.lemmas.Bool.Decides.{nat_tests}
use Rattle.std.proofs.lemmas.List.Folds.{list_any-append}
use Rattle.std.proofs.Math.Bool.{or-false, or-true}
use Rattle.nor_geometry.specs.Counts.{sector_count}
use Rattle.nor_geometry.proofs.Counting.{count_below-none, count_below-most}
use Rattle.nor_model.specs.declared.config.Kinds.{Kinds}
use Rattle.nor_model.specs.Chip.{Chip}
use Rattle.nor_model.specs.Guard.{is_protected, is_block_protected}
use Rattle.nor_model.specs.Sent.{Sent, block_targeted, is_in_targeted}
use Rattle.nor_model.specs.Bus.{BusState}
use Rattle.nor_driver.specs.declared.units.Erase.{Erase}
use Rattle.nor_driver.specs.declared.units.EraseBlock.{EraseBlock}
use Rattle.nor_driver.specs.declared.units.EraseBlock.TheVariants as Blocks
use Rattle.nor_driver.specs.declared.waits.OperationError.{OperationError}
use Rattle.nor_driver.specs.Units.{sectors_in, is_aligned, erases_sector}
use Rattle.nor_driver.specs.Waits.{OperationFails, NamesTimeout}
use Rattle.nor_driver.specs.Limits.{erasing}
use Rattle.nor_driver.specs.Operations.{most_operation, LeavesOperation, Operates}
use Rattle.nor_driver.specs.StatusWrites.{fixed_of}
use Rattle.nor_driver.specs.Erases.{sectors_of, is_sector_in_block, CanErase, MayErase, HasErased, is_sector_named, SendsErase, block_erase}
use Rattle.nor_plan.specs.Erase.{IsErase, Covers, erased_by}
use Rattle.nor_plan.specs.Planned.{planned}
use Rattle.nor_apply.specs.declared.tally.Tally.{Tally}
use Rattle.nor_apply.specs.Within.{addresses_of}
use Rattle.nor_apply.specs.Change.{MayChange, HasMade, blank}
use Rattle.nor_apply.specs.Spending.{may_target, NamesTimeoutIn}
use Rattle.nor_apply.specs.Erasing.{SendsErases, CanEraseAll, LeavesErases, DoesErases}
use Rattle.nor_apply.proofs.InTurn.{ran_leaves, honest_now, Listed, listed_after, listed_fails, listed_more, listed_all, listed_split, listed_next, listed_fewer}
use Rattle.nor_apply.proofs.Changing.{can_after, change_then, made_may, made_same, made_then}
use Rattle.nor_apply.proofs.Targeting.{unit_targets}

record IsOfPlan (kinds : Kinds) (total : ℕ) (set : ℕ → Bool) (unit : Erase) : Type 0 where
  pub is : IsErase kinds total unit
  pub some : 1 ≤ sectors_in total unit.unit
  pub inside : (s : ℕ) → erases_sector total s unit ≡ true → set s ≡ true

some_sectors : (total : ℕ) (unit : EraseBlock) → 1 ≤ total → 1 ≤ sectors_in total unit
some_sectors total unit some = grind arith

free_unit : (chip : Chip) (from n : ℕ) → 1 ≤ n
    → ((a : ℕ) → from ≤ a / 4096 → a / 4096 < from + n → is_protected chip a ≡ false)
    → is_block_protected chip (4096 * from) (4096 * n) ≡ false
free_unit chip from n some free =
    rw (
      free (4096 * from) (omega arith) (omega arith),
      free (4096 * from + 4096 * n - 1) (omega arith) (omega arith),
    ) refl

in_unit : (total s : ℕ) (unit : Erase) → unit.sector ≤ s → s < unit.sector + sectors_in total unit.unit
    → erases_sector total s unit ≡ true
in_unit total s unit low high = and_from _ _ (le-leb _ _ low) (lt-ltb _ _ high)

block_named : (total s : ℕ) (unit : Erase) → total ≤ 4096 → is_aligned unit.unit unit.sector ≡ true
    → erases_sector total s unit ≡ true → is_sector_named unit s ≡ true
block_named total s unit most aligned erased = named_by total s unit.unit unit.sector most aligned erased
  where
    named_by : (total s : ℕ) (block : EraseBlock) (sector : ℕ) → total ≤ 4096 → is_aligned block sector ≡ true
        → erases_sector total s (record { unit = block; sector = sector }) ≡ true
        → is_in_targeted (block_targeted (sectors_in 4096 block) sector) s ≡ true
    named_by total s Blocks.Sector sector most aligned erased = grind (arith, nat_tests)
    named_by total s Blocks.Block32 sector most aligned erased = grind (arith, nat_tests)
    named_by total s Blocks.Block64 sector most aligned erased = grind (arith, nat_tests)
    named_by total s Blocks.Chip sector most aligned erased = grind (arith, nat_tests)

module _ {kinds : Kinds} {size : ℕ} {set done : ℕ → Bool} {unit : Erase} {old mid : BusState}
    (plan : IsOfPlan kinds (size / 4096) set unit) (can : CanEraseAll set kinds size old.chip)
    (has : HasMade (addresses_of done) blank done old mid) where
  sectors_same : sectors_of mid.chip ≡ size / 4096
  sectors_same = rw (has.config, can.sized.same) refl

  can_erase : CanErase unit mid.chip
  can_erase =
      let able = can_after mid.chip (λ s is. is) can.can has.config has.kept has.idle in
      let free = free_unit mid.chip unit.sector (sectors_in (size / 4096) unit.unit) plan.some
      (λ a low high. able.free a (plan.inside (a / 4096) (in_unit (size / 4096) (a / 4096) unit low high))) in
      let same = sectors_same in
      let kinds_same : mid.chip.config.kinds ≡ kinds = rw has.config can.sized.same_kinds in
      let is = plan.is in
      grind arith

  erases_of_plan : (s : ℕ) → is_sector_in_block unit mid.chip s ≡ true → set s ≡ true
  erases_of_plan s erased = plan.inside s (rw sectors_same at erased)

  erase_change : {new : BusState} → MayErase unit mid new → MayChange set set blank mid new
  erase_change {new} may =
      grind (arith, erases_of_plan, may.bytes, may.runs, may.worn, ap fixed_of may.kept, nat_tests)

  erased_unit : {new : BusState} → HasErased unit mid new → new.chip.busy ≡ 0
      → HasMade (λ a. erases_sector (size / 4096) (a / 4096) unit) blank
      (λ s. erases_sector (size / 4096) s unit) mid new
  erased_unit erased idle = rw (← sectors_same) (grind (arith, erased.bytes, erased.worn))

-- Holds after the erases `units` of the plan for `set` succeeded. The erases in `left` aren't sent yet.
pub record ErasesSoFar (kinds : Kinds) (size : ℕ) (set : ℕ → Bool) (units left : List Erase) (old new : BusState)
    (tally : Tally) : Type 0 where
  pub below : (s : ℕ) → set s ≡ true → s < size / 4096
  pub covers : Covers kinds (size / 4096) (planned kinds (size / 4096) set) set
  pub few : length (planned kinds (size / 4096) set) ≤ sector_count set
  pub listed : Listed (planned kinds (size / 4096) set) units left (erasing (may_target set size)) old new tally
  pub most : size / 4096 ≤ 4096
  pub targeted : SendsErases (erased_by (size / 4096) units) old new
  pub done : old.honest ≡ true → CanEraseAll set kinds size old.chip
      → HasMade (addresses_of (erased_by (size / 4096) units)) blank (erased_by (size / 4096) units) old new

module _ {kinds : Kinds} {size : ℕ} {set : ℕ → Bool} {units left : List Erase} {old mid : BusState} {tally : Tally}
    (so : ErasesSoFar kinds size set units left old mid tally) where
  erased_inside : (s : ℕ) → erased_by (size / 4096) units s ≡ true → set s ≡ true
  erased_inside s erased =
      sym (so.covers.union s)
      ∙ rw (← so.listed.split, list_any-append (erases_sector (size / 4096) s) units left, erased) refl

  module _ (none : left ≡ []) where
    pub does_ended : DoesErases set kinds size old mid tally
    does_ended =
        let all = listed_all so.listed none in
        let same : (s : ℕ) → erased_by (size / 4096) units s ≡ set s = λ s. rw all (so.covers.union s) in
        record {
          count = so.listed.count ∙ ap length all;
          fewer = omega (arith, so.few, so.listed.count, ap length all);
          exactly = so.listed.ran.exactly;
          targeted = record {
            later = so.targeted.later;
            added = so.targeted.added;
            each = λ s is. so.targeted.each s (same s ∙ is);
          };
          tallies = so.listed.ran.tallies;
          done = λ honest can. made_same (λ a. same (a / 4096)) same (so.done honest can);
        }

    pub leaves_ended : LeavesErases set kinds size old mid
    leaves_ended =
        ran_leaves so.listed.ran (grind (arith, does_ended.fewer)) (omega (arith, does_ended.fewer))
        (λ honest can. made_may (λ a. erased_inside (a / 4096)) erased_inside (so.done honest can))

  module _ {unit : Erase} {rest : List Erase} (next : left ≡ unit ∷ rest) where
    pub few_units : tally.count < 4096
    few_units = omega (arith, listed_fewer so.listed next, so.few, count_below-most 4096 set)

    some_total : 1 ≤ size / 4096
    some_total = elim (cases_lt 0 (size / 4096)) [
      | inl some ↦ some
      | inr none ↦
          let free : (s : ℕ) → s < 4096 → set s ≡ false = λ s small.
          false_from_ne_true (set s) (λ is. omega (arith, so.below s is)) in
          omega (arith, listed_fewer so.listed next, so.few, count_below-none 4096 set free)
    ]

    of_plan : IsOfPlan kinds (size / 4096) set unit
    of_plan =
        let total = size / 4096 in
        let parts = λ (s : ℕ). list_any-append (erases_sector total s) units (unit ∷ rest) in
        record {
          is = listed_next so.listed next (IsErase kinds total) so.covers.units;
          some = some_sectors total unit.unit some_total;
          inside = λ s erased.
              sym (so.covers.union s) ∙ rw (← listed_split so.listed next, parts s, erased) (or-true _);
        }

    targets_next : (s : ℕ) → is_sector_named unit s ≡ true → may_target set size s ≡ true
    targets_next s =
        unit_targets unit.unit unit.sector size set s of_plan.is.aligned
        (λ k low high. of_plan.inside k (in_unit (size / 4096) k unit low high))

    names_unit : (error : OperationError) → NamesTimeout (4096 * unit.sector) error → NamesTimeoutIn set error
    names_unit error returned =
        let inside = of_plan.inside unit.sector in
        let some = of_plan.some in
        grind (arith, nat_tests)

    module _ {new : BusState} (leaves : LeavesOperation (block_erase unit) mid new) where
      pub erases_failed : {error : OperationError} → OperationFails most_operation mid new error → NamesTimeout (4096 * unit.sector) error
          → LeavesErases set kinds size old new × OperationFails (most_operation * sector_count set) old new error
          × NamesTimeoutIn set error
      erases_failed {error} fails names =
          let most : most_operation * length (planned kinds (size / 4096) set) ≤ most_operation * sector_count set =
          omega (arith, so.few) in (
            listed_after so.listed next leaves.leaves
                (grind (arith, targets_next, so.few, listed_fewer so.listed next)) most
                (λ honest can.
                let has = so.done honest can in (
                  can_erase of_plan can has,
                  λ may. change_then so.listed.ran.nature.steady
                      (made_may (λ a. erased_inside (a / 4096)) erased_inside has) (erase_change of_plan can has may),
                )),
            listed_fails so.listed next fails most,
            names_unit error names,
          )

      targeted_more : SendsErase unit mid new → SendsErases (erased_by (size / 4096) (units ++ unit ∷ [])) old new
      targeted_more sends =
          let total = size / 4096 in let before = so.targeted in
          record {
            later = sends.out ∷ (0x06 ∷ []) ∷ before.later;
            added = sends.added ∙ ap (λ (sent : Sent). sends.out ∷ (0x06 ∷ []) ∷ sent) before.added;
            each = λ s erased.
                let split = list_any-append (erases_sector total s) units (unit ∷ []) in
                elim (or_cases _ _ (sym split ∙ erased)) [
                  | inl had ↦ rw (before.each s had) refl
                  | inr now ↦
                      let here : erases_sector total s unit ≡ true = sym (or-false _) ∙ now in
                      let named = block_named total s unit so.most of_plan.is.aligned here in
                      rw (sends.erases, sends.named s named) (or-true _)
                ];
          }

      pub erases_more : {more : Tally} {sent : ℕ} → Operates (block_erase unit) mid new sent
          → SendsErase unit mid new → more.count ≡ tally.count + 1 → more.transactions ≡ tally.transactions + sent
          → ErasesSoFar kinds size set (units ++ unit ∷ []) rest old new more
      erases_more erases sends count transactions =
          let joined : (s : ℕ) → erased_by (size / 4096) (units ++ unit ∷ []) s
          ≡ (erased_by (size / 4096) units s || erases_sector (size / 4096) s unit) =
          λ s. list_any-append (erases_sector (size / 4096) s) units (unit ∷ [])
          ∙ ap (λ (b : Bool). erased_by (size / 4096) units s || b) (or-false _) in
          record {
            below = so.below;
            covers = so.covers;
            few = so.few;
            most = so.most;
            targeted = targeted_more sends;
            listed = listed_more so.listed next leaves.leaves (grind (arith, targets_next, count)) erases.sends
                erases.ends count transactions;
            done = λ honest can.
                let has = so.done honest can in
                let now = honest_now so.listed.ran honest in
                made_then (λ a. joined (a / 4096)) joined (λ a erased. refl) has
                (erased_unit of_plan can has (erases.done now (can_erase of_plan can has)) (erases.ends.idle now));
          }
