-- The byte, if any, that a program sends for an address of its page, and the chip's bytes after the program.
use Rattle.std.proofs.Common.{◌≡◌, ◌≢◌, ℕ, suc, zero, ◌+◌, ◌-◌, ◌/◌, ◌%◌, ◌<◌, ◌≤◌, List, [], ◌∷◌, length, refl, arith, inl, inr}
use Rattle.std.specs.Prelude.{true, false, None, Some, slice_index, bit_and, nat_le, nat_lt, ◌&&◌, if◌then◌else◌}
use Rattle.std.proofs.lemmas.Bool.Decides.{eqb_tells, nat_tests}
use Rattle.std.proofs.lemmas.Bool.{eq-eqb, ne_eqb}
use Rattle.nor_model.specs.declared.command.Command.TheVariants.{Program}
use Rattle.nor_model.specs.Chip.{Chip}
use Rattle.nor_model.specs.Step.{last_for, byte_after}

pub last_for-apart : (at : ℕ) (sent : List ℕ) (a : ℕ) → ((i : ℕ) → i < length sent → (at + i) % 256 ≢ a % 256)
    → last_for at sent a ≡ None
unfolding last_for
last_for-apart at [] a apart = refl
last_for-apart at (byte ∷ sent) a apart =
    let later = last_for-apart (at + 1) sent a (λ i small same. apart (suc i) (omega arith) (omega arith)) in
    rw (later, ne_eqb (at % 256) (a % 256) (λ same. apart 0 (omega arith) (omega arith))) refl

pub last_for-at : (at : ℕ) (sent : List ℕ) (a i : ℕ) → i < length sent → length sent ≤ i + 256
    → (at + i) % 256 ≡ a % 256 → last_for at sent a ≡ Some (slice_index sent i)
unfolding last_for
last_for-at at [] a i small last here = absurd (omega arith)
last_for-at at (byte ∷ sent) a zero small last here =
    let later = last_for-apart (at + 1) sent a (λ j below same. omega arith) in
    rw (later, eq-eqb (at % 256) (a % 256) (omega arith)) refl
last_for-at at (byte ∷ sent) a (suc i) small last here =
    rw (last_for-at (at + 1) sent a i (omega arith) (omega arith) (omega arith)) refl

pub byte_after-program : (chip : Chip) (at : ℕ) (sent : List ℕ) (a : ℕ) → at % 256 + length sent ≤ 256
    → byte_after chip (Program at) sent a
    ≡ (if nat_le at a && nat_lt a (at + length sent) then bit_and (chip.bytes a) (slice_index sent (a - at))
    else chip.bytes a)
byte_after-program chip at sent a fits =
    elim (nat_le at a && nat_lt a (at + length sent)) as (λ b. (nat_le at a && nat_lt a (at + length sent)) ≡ b
    → byte_after chip (Program at) sent a
    ≡ (if b then bit_and (chip.bytes a) (slice_index sent (a - at)) else chip.bytes a)) [
      | true ↦ λ inside.
          let from : at ≤ a = grind (arith, nat_tests) in
          let before : a < at + length sent = grind (arith, nat_tests) in
          let sent_for = last_for-at at sent a (a - at) (omega arith) (omega arith) (omega arith) in
          rw (eq-eqb (a / 256) (at / 256) (omega arith), sent_for) refl
      | false ↦ λ outside. elim (eqb_tells (a / 256) (at / 256)) [
        | inl same ↦ rw (same.0, last_for-apart at sent a (λ i small there. grind (arith, nat_tests))) refl
        | inr apart ↦ rw apart.0 refl
      ]
    ] refl
