-- The sizes that a chip may have are exactly the powers of two from 64 KiB to 16 MiB.
use Rattle.std.proofs.Common.{ℕ, zero, suc, ◌+◌, ◌-◌, ◌*◌, ◌/◌, ◌%◌, ◌<◌, ◌≤◌, ◌^◌, ◌≡◌, ◌∙◌, ap, sym, arith}
use Rattle.std.proofs.Common.{get_or, inl, inr}
use Rattle.std.specs.Prelude.{true, ◌==◌}
use Rattle.std.specs.Int.{is_power_of_two}
use Rattle.std.specs.Int.RustNames.{count_ones}
use Rattle.std.specs.List.{range_with_len}
use Rattle.std.proofs.lemmas.List.Folds.{list_any_at, Any-from_list_any}
use Rattle.std.proofs.lemmas.List.FromFn.{length-range_with_len, get_or-range_with_len}
use Rattle.std.proofs.Math.Nat.{pow-suc}
use Rattle.std.proofs.Math.Pow.{pow_mono}
use Rattle.std.proofs.lemmas.Nat.{pow-add, pow_pos, pow_below, ones_cat, ones_le_self, zero_from_ones}
use Rattle.std.proofs.lemmas.Bool.{cases_lt, eqb-true, eq-eqb}
use Rattle.nor_geometry.specs.Size.{is_chip_size}
use Rattle.nor_geometry.proofs.Below.{same_tests}

ones_by_half : (n : ℕ) → count_ones n ≡ count_ones (n / 2) + count_ones (n % 2)
ones_by_half n =
    let whole : n ≡ n / 2 * 2 ^ 1 + n % 2 = omega arith in
    ap count_ones whole ∙ ones_cat 1 (n / 2) (n % 2) (omega arith)

pub count_ones-pow : (k : ℕ) → count_ones (2 ^ k) ≡ 1
unfolding count_ones
count_ones-pow k =
    let whole : 2 ^ k ≡ 1 * 2 ^ k + 0 = omega arith in
    ap count_ones whole ∙ ones_cat k 1 0 (pow_pos k)

pub single_one : (k n : ℕ) → n < 2 ^ k → count_ones n ≡ 1 → (j : ℕ) × (n ≡ 2 ^ j)
single_one zero n below one = absurd (omega (arith, ones_le_self n))
single_one (suc k) n below one =
    let split = ones_by_half n in
    let double : 2 ^ suc k ≡ 2 ^ k * 2 = pow-suc 2 k in
    elim (cases_lt 0 (n % 2)) [
      | inl odd ↦
          let digit : n % 2 ≡ 1 = omega arith in
          let rest : n / 2 ≡ 0 = zero_from_ones (n / 2) (omega (arith, ap count_ones digit, count_ones-pow 0)) in
          (0, omega arith)
      | inr even ↦
          let half = single_one k (n / 2) (omega arith) (omega (arith, ones_le_self (n % 2))) in
          (suc half.0, omega (arith, half.1, pow-suc 2 half.0))
    ]

power_of : (size : ℕ) → is_chip_size size ≡ true → (k : ℕ) × (16 ≤ k) × (k < 25) × (size ≡ 2 ^ k)
power_of size holds =
    let found = Any-from_list_any (λ k. size == 2 ^ k) (range_with_len 16 9) holds in
    let within : found.0 < 9 = omega (arith, found.2, length-range_with_len 16 9) in
    let place : found.1 ≡ 16 + found.0 = sym found.3 ∙ get_or-range_with_len 16 9 found.0 found.1 within in
    (found.1, omega arith, omega arith, eqb-true size (2 ^ found.1) found.4)

is_power : (size k : ℕ) → 16 ≤ k → k < 25 → size ≡ 2 ^ k → is_chip_size size ≡ true
is_power size k from before power =
    let at : get_or (range_with_len 16 9) (k - 16) 0 ≡ k =
    get_or-range_with_len 16 9 (k - 16) 0 (omega arith) ∙ omega arith in
    list_any_at (λ j. size == 2 ^ j) (range_with_len 16 9) (k - 16) 0 (simp length-range_with_len (omega arith))
    (rw at (eq-eqb size (2 ^ k) power))

pub record IsInBlocks (size : ℕ) : Type 0 where
  pub large : 65536 ≤ size
  pub small : size ≤ 16777216
  pub blocks : size % 65536 ≡ 0
  pub sectors : 4096 * (size / 4096) ≡ size

pub is_chip_size-in_blocks : (size : ℕ) → is_chip_size size ≡ true → IsInBlocks size
is_chip_size-in_blocks size holds =
    let found = power_of size holds in
    let k = found.0 in
    let least : 2 ^ 16 ≤ 2 ^ found.0 = pow_mono found.1 in
    let upto : found.0 ≤ 24 = omega (arith, found.2) in
    let most : 2 ^ found.0 ≤ 2 ^ 24 = pow_mono upto in
    let split : 2 ^ found.0 ≡ 2 ^ 16 * 2 ^ (found.0 - 16) =
    ap (λ (j : ℕ). 2 ^ j) (omega (arith, found.1)) ∙ pow-add 2 16 (k - 16) in
    let power : size ≡ 2 ^ found.0 = found.3 in
    record { large = omega arith; small = omega arith; blocks = omega arith; sectors = omega arith }

pub is_chip_size-from : (size : ℕ) → is_power_of_two size ≡ true → 65536 ≤ size → size ≤ 16777216
    → is_chip_size size ≡ true
is_chip_size-from size power least most =
    let found = single_one 25 size (omega arith) (eqb-true (count_ones size) 1 power) in
    let same : size ≡ 2 ^ found.0 = found.1 in
    let low : ¬ (found.0 < 16) = λ below. omega (arith, pow_below found.0 16 below) in
    let high : ¬ (24 < found.0) = λ above. omega (arith, pow_below 24 found.0 above) in
    is_power size found.0 (omega arith) (omega arith) same

pub is_chip_size-power_of_two : (size : ℕ) → is_chip_size size ≡ true → is_power_of_two size ≡ true
is_chip_size-power_of_two size holds =
    let found = power_of size holds in
    eq-eqb (count_ones size) 1 (ap count_ones found.3 ∙ count_ones-pow found.0)

pub is_power_of_two-size : (size : ℕ) → 65536 ≤ size → size ≤ 16777216 → is_power_of_two size ≡ is_chip_size size
is_power_of_two-size size least most =
    same_tests _ _ (λ power. is_chip_size-from size power least most) (is_chip_size-power_of_two size)
