use Rattle.std.proofs.Common.{◌≡◌, ◌<◌, ◌≤◌, ◌+◌, ◌-◌, ◌*◌, ◌/◌, ◌∙◌, ℕ, Bool, true, false, List, slice_index, refl, ap, sym, arith}
use Rattle.std.proofs.lemmas.Bool.Decides.{nat_tests}
use Rattle.std.proofs.Math.Bool.{or-false}
use Rattle.nor_geometry.specs.Below.{count_below}
use Rattle.nor_geometry.specs.Counts.{sector_count}
use Rattle.nor_geometry.proofs.Counting.{count_below-with, count_below-add, count_below-none}
use Rattle.nor_geometry.proofs.Verdicts.{count_below-insert}
use Rattle.nor_driver.specs.Reads.{IsSectorOf}
use Rattle.nor_apply.specs.Change.{only, byte_of}

pub count_below-next : (n k : ℕ) (test : ℕ → Bool) → k < n → test k ≡ true → count_below k test + 1 ≤ count_below n test
count_below-next n k test below passes =
    let all : k + 1 + (n - (k + 1)) ≡ n = omega arith in
    let parts = rw all at (count_below-add (k + 1) (n - (k + 1)) test) in
    omega (arith, parts, count_below-with k test passes)

pub only-here : {sector s : ℕ} → s ≡ sector → only sector s ≡ true
only-here same = grind (arith, nat_tests)

pub only-is : {sector s : ℕ} → only sector s ≡ true → s ≡ sector
only-is is = grind (arith, nat_tests)

pub sector_count-only : (sector : ℕ) → sector < 4096 → sector_count (only sector) ≡ 1
sector_count-only sector below =
    let none : (s : ℕ) → s < 4096 → false ≡ false = λ s under. refl in
    count_below-insert 4096 sector (λ _. false) (only sector) below refl (λ s. sym (or-false (only sector s)))
    ∙ ap (λ (n : ℕ). n + 1) (count_below-none 4096 (λ _. false) none)

pub shown_byte : (sector a : ℕ) (bytes : List ℕ) (content : ℕ → ℕ) → a / 4096 ≡ sector
    → ((i : ℕ) → i < 4096 → slice_index bytes i ≡ content (4096 * sector + i)) → byte_of sector bytes a ≡ content a
shown_byte sector a bytes content in_sector shown =
    let place : 4096 * sector + (a - 4096 * sector) ≡ a = omega arith in
    shown (a - 4096 * sector) (omega arith) ∙ ap content place

pub old_byte : (sector : ℕ) (old : List ℕ) (content : ℕ → ℕ) (a : ℕ) → a / 4096 ≡ sector → IsSectorOf content sector old
    → content a ≡ slice_index old (a - 4096 * sector)
old_byte sector old content a in_sector shown = sym (shown_byte sector a old content in_sector shown.byte)
