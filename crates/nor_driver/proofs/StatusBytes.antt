use Rattle.std.proofs.Common.{◌≡◌, ◌<◌, ◌+◌, ◌*◌, ◌/◌, ◌%◌, ◌∙◌, ℕ, Bool, true, false, cond, List, [], ◌∷◌, length, slice_index, ap, sym, refl, arith}
use Rattle.std.specs.Prelude.{◌==◌, bit_and, bit_or}
use Rattle.std.specs.List.{list_all, range_with_len}
use Rattle.std.proofs.lemmas.Bool.{eqb-true}
use Rattle.std.proofs.lemmas.Bool.Decides.{nat_tests}
use Rattle.std.proofs.lemmas.List.Sums.{AllPass-from_list_all}
use Rattle.std.proofs.lemmas.List.FromFn.{get_or-range_with_len, length-range_with_len}
use Rattle.std.proofs.lemmas.Nat.{and_assoc, and_mask}
use Rattle.std.proofs.Math.Bool.{or-false, and-true}
use Rattle.nor_model.specs.declared.command.Command.TheVariants.{WriteStatus, Ignored}
use Rattle.nor_model.specs.declared.status.Status.{Status}
use Rattle.nor_model.specs.Chip.{Chip, kept_in}
use Rattle.nor_model.specs.Status.{bytes_of, bytes_with_code}
use Rattle.nor_model.specs.Step.{is_idle}
use Rattle.nor_model.specs.Bus.{BusState}
use Rattle.nor_model.specs.Sent.{writes_status, with_sent}
use Rattle.nor_driver.specs.Operations.{operation_of, MayOperate, HasOperated, LeavesOperation, Operates, command_operation}
use Rattle.nor_driver.specs.StatusWrites.{fixed_of, with_code, is_status_with_code, takes_status, MayWriteStatus, HasWrittenStatus, status_write, SendsStatusWrite}
use Rattle.nor_driver.proofs.Limits.{in_none}
use Rattle.nor_driver.proofs.Taken.{IsFor, asked_at, leaves_as, does_as}

abbrev written : ℕ → ℕ → ℕ
written kept sent = bit_or (bit_and sent 0b1000011) (bit_or (bit_and kept 0b0111100) (bit_and sent 0b0111000))

held_as : (kept sent : ℕ) → kept % 64 ≡ sent % 64 → bit_and kept 60 ≡ bit_and sent 60
held_as kept sent same =
    sym (and_assoc 60 kept 63) ∙ rw (and_mask kept 6, same, ← and_mask sent 6) (and_assoc 60 sent 63)

every : (test : ℕ → Bool) (n i : ℕ) → list_all test (range_with_len 0 n) ≡ true → i < n → test i ≡ true
every test n i all small =
    let at = get_or-range_with_len 0 n i 0 small in
    let below : i < length (range_with_len 0 n) = omega (arith, length-range_with_len 0 n) in
    ap test (omega (arith, at)) ∙ AllPass-from_list_all test (range_with_len 0 n) all i 0 below

written_as : (kept sent : ℕ) → sent < 128 → kept % 64 ≡ sent % 64 → written kept sent ≡ sent
written_as kept sent small same =
    rw (held_as kept sent same)
    (eqb-true (written sent sent) sent (every (λ n. written n n == n) 128 sent refl small))

module _ (status : Status) (code : ℕ) (below : code < 64) where
  abbrev one : ℕ
  one = 128 * (status.one.0 / 128) + 4 * (code % 32)

  abbrev two : ℕ
  two = status.two.0 % 64 + 64 * (code / 32)

  asked : (chip : Chip)
      → operation_of chip (1 ∷ one ∷ two ∷ []) ≡ cond (takes_status chip) (WriteStatus one two) Ignored
  asked chip = rw (and-true (is_idle chip)) refl

  is_code : (a b : ℕ) → writes_status (1 ∷ one ∷ two ∷ []) a b ≡ true → is_status_with_code status code a b ≡ true
  is_code a b is = grind (arith, nat_tests)

  module _ (old new : BusState) where
    module _ (fixed : fixed_of old.chip.kept ≡ fixed_of (kept_in (bytes_of status))) where
      code_there : new.chip.kept ≡ record { one = one / 4; two = written old.chip.kept.two two }
          → new.chip.kept ≡ with_code code old.chip.kept
      code_there kept =
          let same1 : old.chip.kept.one / 32 ≡ status.one.0 / 128 =
          ap (λ (f : ℕ × ℕ). f.0) fixed ∙ omega arith in
          let same2 : old.chip.kept.two % 64 ≡ status.two.0 % 64 =
          ap (λ (f : ℕ × ℕ). f.1) fixed ∙ omega arith in
          let is : written old.chip.kept.two two ≡ two =
          written_as old.chip.kept.two two (omega arith) (omega arith) in
          let low : one / 4 ≡ 32 * (old.chip.kept.one / 32) + code % 32 = omega arith in
          let high : two ≡ 64 * (code / 32) + old.chip.kept.two % 64 = omega arith in
          rw (kept, is, low, high) refl

      may_write : MayOperate (WriteStatus one two) [] old new → MayWriteStatus code old new
      may_write may = grind (arith, code_there)

      has_written : HasOperated (WriteStatus one two) [] old new → HasWrittenStatus code old new
      has_written has = let there = code_there has.kept in grind (arith, or-false)

    module _ (bytes : List ℕ) (sent : bytes ≡ bytes_with_code status code) where
      abbrev out : List ℕ
      out = 1 ∷ slice_index bytes 0 ∷ slice_index bytes 1 ∷ []

      asked_as : operation_of old.chip out ≡ cond (takes_status old.chip) (WriteStatus one two) Ignored
      asked_as = rw sent (asked old.chip)

      status_asked : IsFor out [] (WriteStatus one two) (status_write status code) old.chip
      status_asked = record {
        sectors = λ s is. absurd (in_none s is);
        programmed = λ a byte is. is;
        status = rw sent (λ a b is. is_code a b is);
        numbers = (refl, refl, refl);
        bytes = refl;
        operates = refl;
        takes = λ can. asked_at (takes_status old.chip) true _ asked_as (rw (can.idle, can.open_to) refl);
        refuses = λ ignores. asked_at _ false _ asked_as ignores;
      }

      pub leaves_status : LeavesOperation (command_operation out) old new
          → LeavesOperation (status_write status code) old new
      leaves_status leaves = leaves_as status_asked (λ may can. may_write can.fixed may) leaves

      pub does_status : (count : ℕ) → Operates (command_operation out) old new count
          → Operates (status_write status code) old new count
      does_status count does = does_as status_asked (λ has can. has_written can.fixed has) count does

      pub sends_status : new.sent ≡ with_sent out ((6 ∷ []) ∷ old.sent) → SendsStatusWrite status code old new
      sends_status added = rw sent at added
