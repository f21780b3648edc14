use Rattle.std.proofs.Common.{ℕ, ◌+◌, ◌*◌, ◌/◌, ◌%◌, ◌<◌, ◌≤◌, ◌^◌, ◌≡◌, ◌∙◌, true, false, ap, arith, leb, inl, inr}
use Rattle.std.specs.Prelude.{◌==◌, ◌&&◌, nat_le}
use Rattle.std.specs.Int.{is_power_of_two}
use Rattle.std.specs.Int.RustNames.{count_ones}
use Rattle.std.proofs.lemmas.Nat.{pow_below, ones_cat, ones_le_self, zero_from_ones}
use Rattle.std.proofs.lemmas.Bool.{cases_lt, and_parts, and_from, eqb-true, eq-eqb}
use Rattle.std.proofs.lemmas.Bool.Decides.{nat_tests}
use Rattle.nor_model.specs.Size.{is_chip_size}
use Rattle.nor_model.proofs.Sizes.{alike, is_chip_size-from, is_chip_size-in_blocks, is_chip_size-power_of_two}
use Rattle.nor_probe.specs.Sfdp.{is_chip_size_in_bits}

pub large_exponent : (k : ℕ) → 27 < k → leb (2 ^ k) (2 ^ 27) ≡ false
large_exponent k h = let above : 2 ^ 27 < 2 ^ k = pow_below 27 k h in grind (arith, nat_tests)

ones_of_bytes : (bits : ℕ) → count_ones bits ≡ count_ones (bits / 8) + count_ones (bits % 8)
ones_of_bytes bits =
    let whole : bits ≡ bits / 8 * 2 ^ 3 + bits % 8 = omega arith in
    ap count_ones whole ∙ ones_cat 3 (bits / 8) (bits % 8) (omega arith)

pub size_of_power : (bits : ℕ) → is_power_of_two bits ≡ true → 2 ^ 19 ≤ bits → bits ≤ 2 ^ 27
    → is_chip_size_in_bits bits ≡ true
unfolding is_chip_size_in_bits
size_of_power bits power least most =
    let one : count_ones bits ≡ 1 = eqb-true (count_ones bits) 1 power in
    let split = ones_of_bytes bits in
    elim (cases_lt 0 (count_ones (bits / 8))) [
      | inl some ↦
          let whole = eq-eqb (bits % 8) 0 (zero_from_ones (bits % 8) (omega arith)) in
          let bytes = eq-eqb (count_ones (bits / 8)) 1 (omega arith) in
          and_from _ _ whole (is_chip_size-from (bits / 8) bytes (omega arith) (omega arith))
      | inr none ↦ let small : bits / 8 ≡ 0 = zero_from_ones (bits / 8) (omega arith) in absurd (omega arith)
    ]

pub chip_size : (bits : ℕ) → is_power_of_two bits ≡ true → 2 ^ 19 ≤ bits → bits ≤ 2 ^ 27
    → is_chip_size (bits / 8) ≡ true
unfolding is_chip_size_in_bits
chip_size bits power least most = (and_parts (bits % 8 == 0) _ (size_of_power bits power least most)).1

bits_of_size : (bits : ℕ) → is_chip_size_in_bits bits ≡ true
    → (is_power_of_two bits && nat_le (2 ^ 19) bits && nat_le bits (2 ^ 27)) ≡ true
unfolding is_chip_size_in_bits
bits_of_size bits is =
    let parts = and_parts (bits % 8 == 0) (is_chip_size (bits / 8)) is in
    let whole : bits % 8 ≡ 0 = eqb-true (bits % 8) 0 parts.0 in
    let blocks = is_chip_size-in_blocks (bits / 8) parts.1 in
    let large = blocks.large in
    let small = blocks.small in
    let one = eqb-true (count_ones (bits / 8)) 1 (is_chip_size-power_of_two (bits / 8) parts.1) in
    let none = ones_le_self (bits % 8) in
    let split = ones_of_bytes bits in
    let single : count_ones bits ≡ 1 = omega arith in
    grind (arith, nat_tests)

pub in_bits : (bits : ℕ)
    → is_chip_size_in_bits bits ≡ (is_power_of_two bits && nat_le (2 ^ 19) bits && nat_le bits (2 ^ 27))
in_bits bits = alike _ _ (bits_of_size bits) (λ is. let power = size_of_power bits in grind (arith, nat_tests))
