use Rattle.std.proofs.Common.{ℕ, ◌≡◌, ◌<◌, ◌/◌, Bool, true, false, refl, ap, sym, ◌∙◌, arith}
use Rattle.std.specs.Prelude.{◌||◌, bit_and, if◌then◌else◌}
use Rattle.std.proofs.lemmas.Nat.{and_mask}
use Rattle.std.proofs.lemmas.Bool.Decides.{nat_tests}
use Rattle.std.proofs.Math.Bool.{or-false}
use Rattle.nor_model.specs.Status.{bytes_of}
use Rattle.nor_model.specs.Chip.{Chip, kept_in}
use Rattle.nor_model.specs.Guard.{is_protected, code_of}
use Rattle.nor_model.specs.Bus.{BusState}
use Rattle.nor_model.proofs.ProtectedBlocks.{is_protected-zero, is_protected-same}
use Rattle.nor_driver.specs.StatusWrites.{fixed_of, with_code, CanWriteStatus, MayWriteStatus, HasWrittenStatus}
use Rattle.nor_apply.specs.declared.changes.Changes.{Changes}
use Rattle.nor_plan.specs.Content.{once_erased}
use Rattle.nor_apply.specs.Within.{is_writable}
use Rattle.nor_apply.specs.Change.{CanChange, MayChange, HasMade}
use Rattle.nor_plan.specs.SectorSet.{none}
use Rattle.nor_apply.specs.Erasing.{CanEraseAll}
use Rattle.nor_apply.specs.Programming.{CanProgramAll}
use Rattle.nor_apply.specs.Applying.{touched_in, raised_in, writes_code, CanApply, HasApplied}
use Rattle.nor_apply.proofs.Kept.{code_cleared, coded_again, fixed_coded, locked_same, coded_from_status, writable_same}
use Rattle.nor_apply.proofs.Changing.{can_after, status_change}

abbrev pub code_read : Changes → ℕ
code_read changes = code_of (kept_in (bytes_of changes.status))

abbrev pub code_once : Changes → ℕ
code_once changes = if changes.unlock then 0 else code_read changes

pub record IsIntermediate (bytes : ℕ → ℕ) (worn : ℕ → Bool) (code : ℕ) (old new : BusState) : Type 0 where
  pub config : new.chip.config ≡ old.chip.config
  pub byte : (a : ℕ) → new.chip.bytes a ≡ bytes a
  pub kept : new.chip.kept ≡ with_code code old.chip.kept
  pub wear : (s : ℕ) → new.worn s ≡ worn s
  pub idle : new.chip.busy ≡ 0
  pub latch : new.chip.latch ≡ true → old.chip.latch ≡ true

pub intermediate_changed : {p e worn : ℕ → Bool} {w bytes : ℕ → ℕ} {code : ℕ} {old mid new : BusState}
    → IsIntermediate bytes worn code old mid → HasMade p w e mid new
    → IsIntermediate (λ a. if p a then w a else bytes a) (λ s. worn s || e s) code old new
intermediate_changed is has = grind (arith, is.byte, has.bytes, is.wear, has.worn)

and_byte : (w : ℕ) → w < 256 → bit_and w 255 ≡ w
and_byte w small = omega (arith, and_mask w 8)

pub code_spared : (changes : Changes) → writes_code changes ≡ false → code_once changes ≡ changes.code
code_spared changes spared = grind (arith, nat_tests)

kept_read : {changes : Changes} {wanted : ℕ → ℕ} {chip : Chip} → CanApply changes wanted chip
    → with_code (code_read changes) chip.kept ≡ chip.kept
kept_read {changes = changes} {chip = chip} can =
    coded_from_status (bytes_of changes.status) chip.kept (ap fixed_of can.kept) ∙ sym can.kept

module _ {changes : Changes} {wanted : ℕ → ℕ} {old : BusState} (can : CanApply changes wanted old.chip) where
  pub intermediate_first : IsIntermediate old.chip.bytes old.worn (code_read changes) old old
  intermediate_first = let kept = kept_read can in search (sym kept)

  module _ {code : ℕ} {bytes : ℕ → ℕ} {worn : ℕ → Bool} {mid : BusState}
      (writable : is_writable old.chip ≡ true) (is : IsIntermediate bytes worn code old mid) where
    fixed : fixed_of mid.chip.kept ≡ fixed_of old.chip.kept
    fixed = ap fixed_of is.kept ∙ fixed_coded code old.chip.kept

    pub can_write : CanWriteStatus changes.status mid.chip
    can_write =
        let lock = locked_same old.chip.kept mid.chip.kept fixed in
        grind (arith, lock, writable, fixed ∙ ap fixed_of can.kept)

    pub code_change : {code' : ℕ} {new : BusState} → MayWriteStatus code' mid new
        → MayChange (touched_in changes) (raised_in changes) wanted mid new
    code_change = status_change (writable_same old.chip mid.chip is.config fixed ∙ writable)

    pub intermediate_code : {code' : ℕ} {new : BusState} → HasWrittenStatus code' mid new → new.chip.busy ≡ 0
        → IsIntermediate bytes worn code' old new
    intermediate_code {code'} has idle =
        let again : with_code code' mid.chip.kept ≡ with_code code' old.chip.kept =
        rw is.kept (coded_again code code' old.chip.kept) in
        let kept = has.kept ∙ again in
        grind (arith, has.bytes, is.byte, has.worn, is.wear, kept)

  module _ {bytes : ℕ → ℕ} {worn : ℕ → Bool} {mid : BusState} (is : IsIntermediate bytes worn (code_once changes) old mid) where
    free : (a : ℕ) → touched_in changes (a / 4096) ≡ true → is_protected mid.chip a ≡ false
    free a touched =
        let before = kept_read can in let cleared = code_cleared old.chip.kept in
        grind (arith, is_protected-zero mid.chip a, is_protected-same old.chip mid.chip is.config, can.free)

    can_touched : CanChange (touched_in changes) mid.chip
    can_touched = record { idle = is.idle; inside = λ s touched. rw is.config (can.inside s touched); free = free }

    pub can_erase_all : CanEraseAll (raised_in changes) changes.kinds changes.size mid.chip
    can_erase_all = record {
      can = can_after mid.chip can.raised can_touched refl refl is.idle;
      sized = record { same = rw is.config can.sized.same; same_kinds = rw is.config can.sized.same_kinds };
    }

  pub can_program_all : {worn : ℕ → Bool} {mid : BusState}
      → IsIntermediate (once_erased (raised_in changes) old.chip.bytes) worn (code_once changes) old mid
      → CanProgramAll (touched_in changes) (raised_in changes) wanted mid.chip
  can_program_all is = let touched = can_touched is in grind (arith, is.byte, and_byte, can.bytes, can.falls)

  pub applied : {new : BusState}
      → IsIntermediate
      (λ a. if touched_in changes (a / 4096) then wanted a else once_erased (raised_in changes) old.chip.bytes a)
      (λ s. (old.worn s || raised_in changes s) || none s) changes.code old new
      → HasApplied changes wanted old new
  applied is = grind (arith, is.byte, can.raised, is.wear, or-false)
