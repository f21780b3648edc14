use Rattle.std.proofs.Common.{◌≡◌, ◌≤◌, ◌∷◌, [], ℕ, ◌+◌, ◌-◌, ◌*◌, ◌/◌, Bool, false, refl, arith}
use Rattle.std.proofs.lemmas.Bool.Decides.{nat_tests}
use Rattle.nor_model.specs.Chip.{Chip, KeptBits, is_locked, kept_in}
use Rattle.nor_model.specs.Guard.{code_of, is_block_protected}
use Rattle.nor_model.proofs.ProtectedBlocks.{is_protected-past}
use Rattle.nor_model.proofs.Sizes.{sized_bounds}
use Rattle.nor_scan.specs.declared.identity.Identity.{Identity}
use Rattle.nor_scan.specs.Identity.{status_read}
use Rattle.nor_scan.specs.Saving.{IsIdentityOf}

pub code_same : {further : Bool} {chip : Chip} {identity : Identity} → IsIdentityOf further chip identity
    → code_of (kept_in (status_read identity)) ≡ code_of chip.kept
code_same is = let one = is.one in let two = is.two in omega arith

lock_bits : (one two : ℕ) (kept : KeptBits) → one / 4 ≡ kept.one → two ≡ kept.two
    → is_locked (kept_in (one ∷ two ∷ [])) ≡ is_locked kept
lock_bits one two kept low high = grind (arith, nat_tests)

pub lock_same : {further : Bool} {chip : Chip} {identity : Identity} → IsIdentityOf further chip identity
    → is_locked (kept_in (status_read identity)) ≡ is_locked chip.kept
lock_same {chip = chip} {identity = identity} is = lock_bits identity.found.status1 identity.status2 chip.kept is.one is.two

pub past_end : (chip : Chip) (s : ℕ) → chip.config.size / 4096 ≤ s → is_block_protected chip (4096 * s) 4096 ≡ false
past_end chip s past =
    let sectors = (sized_bounds chip.config).sectors in
    rw (is_protected-past chip (4096 * s) (omega arith), is_protected-past chip (4096 * s + 4096 - 1) (omega arith)) refl
