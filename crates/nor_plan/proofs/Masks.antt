use Rattle.std.proofs.Common.{ℕ, suc, ◌*◌, inl, inr, w64, ◌≡◌, ◌<◌, ◌≤◌, ◌+◌, ◌^◌, ◌-◌, ◌%◌, ◌/◌, Bool, true, false, not, cond, nat_eq, ◌≢◌, List, length, get_or, map, sym, ◌∙◌, ap, arith, w8}
use Rattle.std.specs.Int.{bit_at, trailing_zeros}
use lib.Lanes.{mask_l, top, zip2}
use Rattle.std.proofs.Math.Nat.{pow-suc}
use Rattle.std.proofs.lemmas.Bool.{cases_lt}
use Rattle.std.proofs.lemmas.Bool.Decides.{nat_tests}
use Rattle.std.proofs.lemmas.Nat.{pow_pos, le-div, div_below}
use Rattle.std.proofs.lemmas.Nat.Bits.{bit_at-zero, bit_at-trailing_zeros, bit_at_above}
use Rattle.nor_plan.specs.Mask.{IsMask}
use Rattle.std.proofs.lemmas.Simd.{tops_compared, mask_l-lt, mask_l-mod, bit_mask_l, length-zip2, get_or-zip2}

-- The mask whose bit `i` is the top bit of a lane that is 255 if `t` is true for byte `i` of both lists, otherwise 0.
abbrev pub compared : (ℕ → ℕ → Bool) → List ℕ → List ℕ → ℕ
compared t xs ys = mask_l (map (top 7) (zip2 (λ a b. cond (t a b) (2 ^ 8 - 1) 0) xs ys)) % 2 ^ 64

pub compared-IsMask : (t : ℕ → ℕ → Bool) (xs ys : List ℕ) → length xs ≡ 32 → length ys ≡ 32 → (test : ℕ → Bool)
    → ((i : ℕ) → i < 32 → t (get_or xs i 0) (get_or ys i 0) ≡ test i) → IsMask (compared t xs ys) test
compared-IsMask t xs ys long same test compares =
    let whole : length (zip2 t xs ys) ≡ 32 = length-zip2 t xs ys (long ∙ sym same) ∙ long in
    let is : compared t xs ys ≡ mask_l (zip2 t xs ys) =
    ap (λ ms. mask_l ms % 2 ^ 64) (tops_compared w8 t xs ys) ∙ mask_l-mod (zip2 t xs ys) 64 (omega arith) in
    record {
      lanes = omega (arith, is, mask_l-lt (zip2 t xs ys), ap (λ (n : ℕ). 2 ^ n) whole);
      bits = λ i lane.
          ap (λ m. bit_at m i) is ∙ bit_mask_l (zip2 t xs ys) i
          ∙ ap (λ b. cond b 1 0) (get_or-zip2 t xs ys i 0 0 false (omega arith) (omega arith) ∙ compares i lane);
    }

pub other_from_test : (x y : ℕ) → not (nat_eq x y) ≡ true → x ≢ y
other_from_test x y e same = grind (arith, nat_tests)

pub test_from_other : (x y : ℕ) → x ≢ y → not (nat_eq x y) ≡ true
test_from_other x y differ = grind (arith, nat_tests)

same_from_bit : (x y : ℕ) → ◌≡◌ {A = ℕ} (cond (not (nat_eq x y)) 1 0) 0 → x ≡ y
same_from_bit x y e = grind (arith, nat_tests)

other_from_bit : (x y : ℕ) → ◌≡◌ {A = ℕ} (cond (not (nat_eq x y)) 1 0) 1 → x ≢ y
other_from_bit x y e same = grind (arith, nat_tests)

highest_bit : (n r : ℕ) → 2 ^ r ≤ n → n < 2 * 2 ^ r → bit_at n r ≡ 1
highest_bit n r least most =
    let above = le-div 1 n (2 ^ r) (pow_pos r) (omega (arith, least)) in
    let one : n / 2 ^ r ≡ 1 = omega (arith, above, div_below n (2 ^ r) 2 (pow_pos r) most) in
    ap (λ x. x % 2) one

module _ (f g : ℕ → ℕ) (at mask : ℕ) (is : IsMask mask (λ i. not (nat_eq (f (at + i)) (g (at + i))))) where
  clear_lane : (k : ℕ) → at ≤ k → k < at + 32 → bit_at mask (k - at) ≡ 0 → f k ≡ g k
  clear_lane k low high clear =
      let place : at + (k - at) ≡ k = omega arith in
      ap f (sym place) ∙ same_from_bit _ _ (sym (is.bits (k - at) (omega arith)) ∙ clear) ∙ ap g place

  set_lane : (i : ℕ) → bit_at mask i ≡ 1 → (i < 32) × (f (at + i) ≢ g (at + i))
  set_lane i one =
      let inside : ¬ (32 ≤ i) = λ above. omega (arith, one, bit_at_above mask 32 i is.lanes above) in
      let lane : i < 32 = omega arith in
      (lane, other_from_bit _ _ (sym (is.bits i lane) ∙ one))

  pub passed_block : mask ≡ 0 → (k : ℕ) → at ≤ k → k < at + 32 → f k ≡ g k
  passed_block none k low high = clear_lane k low high (ap (λ m. bit_at m (k - at)) none ∙ bit_at-zero (k - at))

  pub passed_before : ((k : ℕ) → k < at → f k ≡ g k) → mask ≡ 0 → (k : ℕ) → k < at + 32 → f k ≡ g k
  passed_before before none k high =
      elim (cases_lt k at) [ inl earlier ↦ before k earlier | inr here ↦ passed_block none k here high ]

  pub first_in_block : 0 < mask → let t = trailing_zeros w64
      mask in (t < 32) × (f (at + t) ≢ g (at + t)) × ((k : ℕ) → at ≤ k → k < at + t → f k ≡ g k)
  first_in_block some =
      let lowest = bit_at-trailing_zeros w64 mask some (omega (arith, is.lanes)) in
      let first = set_lane (trailing_zeros w64 mask) lowest.1 in
      (first.0, first.1, λ k low before. clear_lane k low (omega (arith, first.0)) (lowest.2 (k - at) (omega arith)))

  pub last_in_block : (r : ℕ) → 2 ^ r ≤ mask → mask < 2 * 2 ^ r
      → (r < 32) × (f (at + r) ≢ g (at + r)) × ((k : ℕ) → at + r < k → k < at + 32 → f k ≡ g k)
  last_in_block r least most =
      let last = set_lane r (highest_bit mask r least most) in
      let above : mask < 2 ^ suc r = omega (arith, pow-suc 2 r) in (
        last.0,
        last.1,
        λ k after high. clear_lane k (omega arith) high
            (bit_at_above mask (suc r) (k - at) above (omega arith)),
      )
