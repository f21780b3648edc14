use Rattle.std.proofs.Common.{◌≡◌, ℕ, ◌+◌, ◌*◌, ◌/◌, ◌%◌, ◌<◌, arith, ◌∙◌}
use Rattle.std.specs.Prelude.{bit_and, bit_or, ◌==◌}
use Rattle.std.proofs.lemmas.Bool.Decides.{nat_tests}
use Rattle.std.proofs.lemmas.Nat.{and_le_r, and_mask, or_comm, or_disjoint, or_lt, or_shifted}
use Rattle.std.proofs.lemmas.Nat.Bits.{and_high, and_pow}

pub or_latch : (n : ℕ) → n % 4 ≡ 0 → bit_or n 2 ≡ n + 2
or_latch n clear = or_disjoint n 2 (omega (arith, and_pow n 1))

pub or_busy : (n : ℕ) → n % 2 ≡ 0 → bit_or n 1 ≡ n + 1
or_busy n clear = or_disjoint n 1 (omega (arith, and_pow n 0))

pub written_lt : (old sent : ℕ) → bit_or (bit_and sent 67) (bit_or (bit_and old 60) (bit_and sent 56)) < 128
written_lt old sent =
    or_lt 7 (bit_and sent 67) _ (omega (arith, and_le_r sent 67))
    (or_lt 7 (bit_and old 60) _ (omega (arith, and_le_r old 60)) (omega (arith, and_le_r sent 56)))

pub wel_set : (n : ℕ) → (bit_and n 2 == 2) ≡ (n / 2 % 2 == 1)
wel_set n = let bit = and_pow n 1 in grind (arith, nat_tests)

pub code_bits : (one two : ℕ) → bit_or (bit_and two 64 / 2) (bit_and one 124 / 4) ≡ 32 * (two / 64 % 2) + one / 4 % 32
code_bits one two =
    let low : bit_and one 124 / 4 ≡ one / 4 % 32 = omega (arith, and_high one 5 2) in
    let high : bit_and two 64 / 2 ≡ two / 64 % 2 * 32 = omega (arith, and_pow two 6) in
    rw (low, high) (or_shifted (two / 64 % 2) 5 (one / 4 % 32) (omega arith) ∙ omega arith)

pub fixed_one : (n : ℕ) → n < 256 → bit_and n 128 ≡ 128 * (n / 128)
fixed_one n small = omega (arith, and_pow n 7)

pub fixed_two : (n : ℕ) → bit_and n 63 ≡ n % 64
fixed_two n = and_mask n 6

pub coded_one : (fixed code : ℕ) → code < 64
    → bit_or (128 * fixed) (bit_and (code * 4 % 256) 124) ≡ 128 * fixed + 4 * (code % 32)
coded_one fixed code small =
    let low : bit_and (code * 4 % 256) 124 ≡ 4 * (code % 32) = omega (arith, and_high (code * 4 % 256) 5 2) in
    let place : 128 * fixed ≡ fixed * 128 = omega arith in
    rw (low, place) (or_shifted fixed 7 (4 * (code % 32)) (omega arith))

pub coded_two : (fixed code : ℕ) → fixed < 64 → code < 64
    → bit_or fixed (bit_and (code * 2 % 256) 64) ≡ fixed + 64 * (code / 32)
coded_two fixed code low small =
    let high : bit_and (code * 2 % 256) 64 ≡ code / 32 * 64 = omega (arith, and_pow (code * 2 % 256) 6) in
    rw high (or_comm fixed (code / 32 * 64) ∙ or_shifted (code / 32) 6 fixed low ∙ omega arith)
