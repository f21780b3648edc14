use Rattle.std.proofs.Common.{◌≡◌, ◌<◌, ◌≤◌, ◌+◌, ◌/◌, ◌%◌, ◌⊎◌, ℕ, Bool, true, refl, arith}
use Rattle.std.proofs.lemmas.Bool.Decides.{nat_tests}
use Rattle.nor_model.specs.Sent.{block_targeted, is_in_targeted}
use Rattle.nor_driver.specs.declared.units.EraseBlock.{EraseBlock}
use Rattle.nor_driver.specs.Units.{sectors_in, is_aligned}
use Rattle.nor_plan.proofs.Units.{holds_run-at, holds_run-from}
use Rattle.nor_apply.specs.Spending.{may_target}

pub target_here : (sectors : ℕ → Bool) (size s : ℕ) → sectors s ≡ true → may_target sectors size s ≡ true
target_here sectors size s is = rw is refl

target_past_end : (sectors : ℕ → Bool) (size s : ℕ) → size / 4096 ≤ s → ((k : ℕ) → k < size / 4096 → sectors k ≡ true)
    → may_target sectors size s ≡ true
target_past_end sectors size s outside whole =
    grind (arith, holds_run-from sectors 0 (size / 4096), whole, nat_tests)

pub target_split : (sectors : ℕ → Bool) (size s : ℕ) → may_target sectors size s ≡ true
    → (sectors s ≡ true) ⊎ ((size / 4096 ≤ s) × ((k : ℕ) → k < size / 4096 → sectors k ≡ true))
target_split sectors size s may = grind (arith, holds_run-at sectors 0 (size / 4096), nat_tests)

pub target_wider : (sectors more : ℕ → Bool) (size s : ℕ) → ((k : ℕ) → sectors k ≡ true → more k ≡ true)
    → may_target sectors size s ≡ true → may_target more size s ≡ true
target_wider sectors more size s wider may =
    grind (arith, target_split sectors size s may, wider, target_here more size s, target_past_end more size s)

pub named_in : (n sector s : ℕ) → 1 ≤ n → sector % n ≡ 0 → is_in_targeted (block_targeted n sector) s ≡ true
    → (sector ≤ s) × (s < sector + n)
named_in n sector s some aligned named = grind (arith, nat_tests)

pub unit_targets : (unit : EraseBlock) (sector size : ℕ) (set : ℕ → Bool) (s : ℕ) → is_aligned unit sector ≡ true
    → ((k : ℕ) → sector ≤ k → k < sector + sectors_in (size / 4096) unit → set k ≡ true)
    → is_in_targeted (block_targeted (sectors_in 4096 unit) sector) s ≡ true → may_target set size s ≡ true
unit_targets unit sector size set s aligned inside named =
    let outside = target_past_end set size s in
    let here = target_here set size s in
    grind (arith, nat_tests, inside s, inside)
