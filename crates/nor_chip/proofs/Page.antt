use Rattle.std.proofs.Common.{◌≡◌, ℕ, ◌+◌, ◌-◌, ◌*◌, ◌/◌, ◌%◌, ◌<◌, ◌≤◌, min, List, length, arith, ◌∙◌, inl, inr}
use Rattle.std.specs.Prelude.{Bool, true, Option, Some, slice_index, bit_and, ◌==◌, if◌then◌else◌}
use Rattle.std.proofs.lemmas.Bool.Decides.{eqb_tells}
use Rattle.std.proofs.lemmas.Bool.{cases_lt}
use Rattle.std.proofs.lemmas.Nat.{and_le_l}
use Rattle.nor_model.specs.Step.{last_for, lowered}
use Rattle.nor_model.proofs.PageBytes.{last_for-apart, last_for-at}
use Rattle.nor_chip.specs.Cells.{HasPageProgrammed}

pub record ClearsFrom (from done : ℕ) (sent old new : List ℕ) : Type 0 where
  pub inside : (i : ℕ) → i < done
      → slice_index new (from + i) ≡ bit_and (slice_index old (from + i)) (slice_index sent i)
  pub below : (a : ℕ) → a < from → slice_index new a ≡ slice_index old a
  pub above : (a : ℕ) → from + done ≤ a → slice_index new a ≡ slice_index old a

-- Holds if `sent` is `skipped` bytes without effect, then `front` (at most up to the page's end), then `back` (from the
-- page's start).
pub record IsParted (at : ℕ) (sent : List ℕ) (skipped : ℕ) (front back : List ℕ) : Type 0 where
  pub skips : skipped ≡ length sent - 256
  pub front_len : length front ≡ min (length sent - skipped) (256 - (at + skipped) % 256)
  pub back_len : length front + length back + skipped ≡ length sent
  pub front_at : (i : ℕ) → i < length front → slice_index front i ≡ slice_index sent (skipped + i)
  pub back_at : (i : ℕ) → i < length back → slice_index back i ≡ slice_index sent (skipped + length front + i)

module _ (at : ℕ) (sent : List ℕ) (skipped : ℕ) (front back old mid new : List ℕ)
    (parted : IsParted at sent skipped front back)
    (first : ClearsFrom (at / 256 * 256 + (at + skipped) % 256) (length front) front old mid)
    (second : ClearsFrom (at / 256 * 256) (length back) back mid new) where
  in_page : (a : ℕ) → a / 256 ≡ at / 256 → slice_index new a ≡ lowered (slice_index old a) (last_for at sent a)
  in_page a here =
      let p = a % 256 in let start = (at + skipped) % 256 in
      let place : at / 256 * 256 + p ≡ a = omega arith in
      elim (cases_lt p (length back)) [
        | inl within ↦
            rw (last_for-at at sent a (skipped + length front + p) (omega arith) (omega arith) (omega arith))
            (cc (place, second.inside p within, first.below a (omega arith), parted.back_at p within))
        | inr later ↦ second.above a (omega arith) ∙ elim (cases_lt p start) [
          | inl before ↦ rw (last_for-apart at sent a (λ i small same. omega arith)) (first.below a (omega arith))
          | inr from ↦ elim (cases_lt p (start + length front)) [
            | inl within ↦
                let i : p - start < length front = omega arith in
                let spot : at / 256 * 256 + start + (p - start) ≡ a = omega arith in
                rw (last_for-at at sent a (skipped + (p - start)) (omega arith) (omega arith) (omega arith))
                (cc (spot, first.inside (p - start) i, parted.front_at (p - start) i))
            | inr after ↦ rw (last_for-apart at sent a (λ i small same. omega arith)) (first.above a (omega arith))
          ]
        ]
      ]

  pub programmed : HasPageProgrammed at sent old new
  programmed a = elim (eqb_tells (a / 256) (at / 256)) [
    | inl same ↦ rw same.0 (in_page a same.1)
    | inr other ↦ let apart = other.1 in rw other.0 (elim (cases_lt a (at / 256 * 256)) [
      | inl before ↦ second.below a before ∙ first.below a (omega arith)
      | inr from ↦ second.above a (omega arith) ∙ first.above a (omega arith)
    ])
  ]

lowered-le : (here : Bool) (old : ℕ) (sent : Option ℕ) → (if here then lowered old sent else old) ≤ old
lowered-le true old (Some byte) = and_le_l old byte
lowered-le _ old _ = omega arith

pub HasPageProgrammed-le : (at : ℕ) (sent old new : List ℕ) → HasPageProgrammed at sent old new → (a : ℕ)
    → slice_index new a ≤ slice_index old a
HasPageProgrammed-le at sent old new programmed a =
    rw (programmed a) (lowered-le (a / 256 == at / 256) (slice_index old a) (last_for at sent a))
