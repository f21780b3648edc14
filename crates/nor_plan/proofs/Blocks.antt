-- Vector code compares two slices 32 bytes at a time: it combines the XORs of the bytes with OR. If the result is 0,
-- the slices agree in all bytes compared.
use Rattle.std.proofs.Common.{ℕ, zero, suc, ◌≡◌, ◌≢◌, ◌<◌, ◌≤◌, ◌+◌, ◌-◌, bit_or, bit_xor, List, [], ◌∷◌, length, replicate, get_or, sym, ◌∙◌, ap, not, nat_eq, inl, inr, arith}
use lib.Bits.{xor_self, xor_assoc, xor_zero_l, xor_zero_r, or_zero_l}
use lib.Lanes.{chunk, zip2, fold_l}
use Rattle.std.proofs.Math.Nat.{eq-zero-or-pos}
use Rattle.std.proofs.lemmas.Bool.{cases_lt, cases_eq, ne_eqb}
use Rattle.std.proofs.lemmas.List.{length-replicate, get_or-replicate}
use Rattle.std.proofs.lemmas.Nat.{le_or_l, le_or_r}
use Rattle.std.proofs.lemmas.Simd.{length-chunk, get_or-chunk, length-zip2, get_or-zip2}
use Rattle.std.specs.Bool.{MatchBool}
use Rattle.nor_plan.specs.Bytes.{AgreeWithin, SomeDiffer}
use Rattle.nor_plan.specs.Mask.{ShowsDifferences}

same_from_xor : (a b : ℕ) → bit_xor a b ≡ 0 → a ≡ b
same_from_xor a b none =
    sym (xor_zero_r a) ∙ ap (bit_xor a) (sym none) ∙ sym (xor_assoc a a b)
    ∙ ap (λ x. bit_xor x b) (xor_self a) ∙ xor_zero_l b

or_zero : (x y : ℕ) → bit_or x y ≡ 0 → (x ≡ 0) × (y ≡ 0)
or_zero x y none = (omega (arith, none, le_or_l x y), omega (arith, none, le_or_r x y))

front_le : (start : ℕ) (xs : List ℕ) → start ≤ fold_l bit_or start xs
front_le start [] = omega arith
front_le start (x ∷ xs) = omega (arith, le_or_l start x, front_le (bit_or start x) xs)

lane_le : (start : ℕ) (xs : List ℕ) (i : ℕ) → get_or xs i 0 ≤ fold_l bit_or start xs
lane_le start [] i = omega arith
lane_le start (x ∷ xs) zero = omega (arith, le_or_r start x, front_le (bit_or start x) xs)
lane_le start (x ∷ xs) (suc i) = lane_le (bit_or start x) xs i

some_lane : (P : Type 0) (start : ℕ) (xs : List ℕ) → (start ≢ 0 → P) → ((i : ℕ) → i < length xs → get_or xs i 0 ≢ 0 → P)
    → fold_l bit_or start xs ≢ 0 → P
some_lane P start [] front lane some = front some
some_lane P start (x ∷ xs) front lane some =
    some_lane P (bit_or start x) xs
    (λ both. elim (eq-zero-or-pos start) [
      | inl none ↦ lane zero (omega arith) (λ last. both (ap (λ s. bit_or s x) none ∙ or_zero_l x ∙ last))
      | inr first ↦ front (λ none. omega arith)
    ])
    (λ i within other. lane (suc i) (omega arith) other) some

module _ (a b : List ℕ) where
  pub ShowsDifferences-xor : (at : ℕ) → at + 32 ≤ length a → at + 32 ≤ length b
      → ShowsDifferences a b at 32 (zip2 bit_xor (chunk at 32 a) (chunk at 32 b))
  ShowsDifferences-xor at a_room b_room =
      let xs : List ℕ = chunk at 32 a in
      let ys : List ℕ = chunk at 32 b in
      let a_long : length (chunk at 32 a) ≡ 32 = length-chunk at 32 a a_room in
      let b_long : length (chunk at 32 b) ≡ 32 = length-chunk at 32 b b_room in
      let bits : (i : ℕ) → i < 32
      → get_or (zip2 bit_xor xs ys) i 0 ≡ bit_xor (get_or a (at + i) 0) (get_or b (at + i) 0) =
      λ i lane. get_or-zip2 bit_xor xs ys i 0 0 0 (omega arith) (omega arith)
      ∙ rw (get_or-chunk at 32 a i 0 lane, get_or-chunk at 32 b i 0 lane) in
      record {
        long = length-zip2 bit_xor xs ys (a_long ∙ sym b_long) ∙ a_long;
        none = λ zeros k low high.
            let place : at + (k - at) ≡ k = omega arith in
            let lane : k - at < 32 = omega arith in
            let same = same_from_xor (get_or a (at + (k - at)) 0) (get_or b (at + (k - at)) 0)
            (sym (bits (k - at) lane) ∙ zeros (k - at) lane) in
            rw place at same;
        some = λ i lane other. (at + i, omega arith, λ same. other (bits i lane ∙ rw (same, xor_self)));
      }

  pub ShowsDifferences-zeros : (at : ℕ) → ShowsDifferences a b at 0 (replicate 32 0)
  ShowsDifferences-zeros at = record {
    long = length-replicate {A = ℕ} 32 0;
    none = λ zeros k low high. absurd (omega (arith, low, high));
    some = λ i lane other. absurd (other (get_or-replicate {A = ℕ} 32 i 0 0 lane));
  }

  pub ShowsDifferences-or : {at m from n count : ℕ} {xs ys : List ℕ} → from ≡ at + m → count ≡ m + n
      → ShowsDifferences a b at m xs → ShowsDifferences a b from n ys → ShowsDifferences a b at count (zip2 bit_or xs ys)
  ShowsDifferences-or {at} {m} {from} {n} {count} {xs} {ys} next sum first second =
      let long = first.long in
      let same = second.long in
      let bits : (i : ℕ) → i < 32 → get_or (zip2 bit_or xs ys) i 0 ≡ bit_or (get_or xs i 0) (get_or ys i 0) =
      λ i lane. get_or-zip2 bit_or xs ys i 0 0 0 (omega arith) (omega arith) in
      record {
        long = length-zip2 bit_or xs ys (long ∙ sym same) ∙ long;
        none = λ zeros k low high.
            let parts = λ (i : ℕ) (lane : i < 32).
            or_zero (get_or xs i 0) (get_or ys i 0) (sym (bits i lane) ∙ zeros i lane) in
            elim (cases_lt k from) [
              | inl near ↦ first.none (λ i lane. (parts i lane).0) k low (omega arith)
              | inr far ↦ second.none (λ i lane. (parts i lane).1) k far (omega arith)
            ];
        some = λ i lane other. elim (eq-zero-or-pos (get_or xs i 0)) [
          | inl none ↦ second.some i lane (λ last. other (bits i lane ∙ rw (none, or_zero_l) last))
          | inr some ↦ first.some i lane (λ none. omega arith)
        ];
      }

  pub ShowsDifferences-none : (at count : ℕ) (xs : List ℕ) → ShowsDifferences a b at count xs → fold_l bit_or 0 xs ≡ 0
      → AgreeWithin a b at (at + count)
  ShowsDifferences-none at count xs shows none = shows.none (λ i lane. omega (arith, none, lane_le 0 xs i))

  pub ShowsDifferences-tested : (count end : ℕ) (xs : List ℕ) → ShowsDifferences a b 0 count xs → end ≤ count
      → MatchBool (not (nat_eq (fold_l bit_or 0 xs) 0)) (SomeDiffer a b) (AgreeWithin a b 0 end)
  ShowsDifferences-tested count end xs shows within =
      elim (cases_eq (fold_l bit_or 0 xs) 0) [
        | inl nothing ↦ rw nothing (λ k low high. ShowsDifferences-none 0 count xs shows nothing k low (omega arith))
        | inr something ↦ rw (ne_eqb (fold_l bit_or 0 xs) 0 something)
            (some_lane (SomeDiffer a b) 0 xs (λ some. absurd (some (omega arith)))
            (λ i lane other. shows.some i (omega (arith, shows.long)) other) something)
      ]
