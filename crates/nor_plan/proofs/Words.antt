use Rattle.std.proofs.Common.{ℕ, zero, suc, ◌≡◌, ◌<◌, ◌≤◌, ◌*◌, ◌/◌, ◌%◌, ◌^◌, Bool, false, nat_eq, ◌||◌, List, length, get_or, set, replicate, bit_or, get_or-set_other, refl, ap, inl, inr, arith, w64}
use Rattle.std.specs.Int.{bit_at}
use Rattle.std.proofs.lemmas.Bool.{cases_eq, eq-eqb, ne_eqb}
use Rattle.std.proofs.lemmas.List.{get_or-set_same, get_or_past}
use Rattle.std.proofs.lemmas.Nat.Bits.{bit_at-zero, bit_at_set_same, bit_at_set_other}
use Rattle.nor_plan.specs.declared.set.SectorSet.{SectorSet}
use Rattle.nor_plan.specs.SectorSet.{has}

abbrev pub bit_of : List ℕ → ℕ → Bool
bit_of words sector = nat_eq (bit_at (get_or words (sector / 64) 0) (sector % 64)) 1

zeros : (n k : ℕ) → ◌≡◌ {A = ℕ} (get_or (replicate n 0) k 0) 0
zeros zero k = refl
zeros (suc n) zero = refl
zeros (suc n) (suc k) = zeros n k

pub none-set : (sector : ℕ) → bit_of (replicate 64 0) sector ≡ false
none-set sector = rw (zeros 64 (sector / 64), bit_at-zero)

abbrev pub with_bit : List ℕ → ℕ → List ℕ
with_bit words sector =
    set words (sector / 64) (bit_or (get_or words (sector / 64) 0) (1 * 2 ^ (sector % 64) % 2 ^ 64))

pub bit_of-with_bit : (words : List ℕ) (sector : ℕ) → sector / 64 < length words → (s : ℕ)
    → bit_of (with_bit words sector) s ≡ (nat_eq s sector || bit_of words s)
bit_of-with_bit words sector there s =
    let old = get_or words (sector / 64) 0 in
    let new = bit_or old (1 * 2 ^ (sector % 64) % 2 ^ 64) in
    let within : sector % 64 < 64 = omega arith in
    elim (cases_eq (s / 64) (sector / 64)) [
      | inl row ↦
          let read = get_or-set_same words (sector / 64) new 0 there in
          elim (cases_eq (s % 64) (sector % 64)) [
            | inl column ↦
                let same : s ≡ sector = omega arith in
                rw (row, read, column, bit_at_set_same w64 old (sector % 64) within, eq-eqb s sector same)
            | inr column ↦
                let other = ne_eqb s sector (λ same. column (ap (λ k. k % 64) same)) in
                rw (row, read, bit_at_set_other w64 old (sector % 64) within (s % 64) column, other)
          ]
      | inr row ↦
          let other = ne_eqb s sector (λ same. row (ap (λ k. k / 64) same)) in
          rw (get_or-set_other words (sector / 64) (s / 64) new 0 row, other)
    ]

pub none_past : (set : SectorSet) → length set.words ≡ 64 → (s : ℕ) → 4096 ≤ s → has set s ≡ false
unfolding has
none_past set long s past = rw (get_or_past set.words (s / 64) 0 (omega arith), bit_at-zero)
