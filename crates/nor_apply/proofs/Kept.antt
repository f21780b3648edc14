use Rattle.std.proofs.Common.{◌≡◌, ◌+◌, ◌*◌, ◌/◌, ◌%◌, ℕ, List, slice_index, arith, ◌∙◌, ap, refl}
use Rattle.std.specs.Prelude.{◌||◌, ◌==◌}
use Rattle.nor_model.specs.Chip.{Chip, KeptBits, is_locked, kept_in}
use Rattle.nor_model.specs.Guard.{code_of}
use Rattle.nor_driver.specs.StatusWrites.{fixed_of, with_code}
use Rattle.nor_apply.specs.Within.{is_writable}

pub fixed_coded : (code : ℕ) (kept : KeptBits) → fixed_of (with_code code kept) ≡ fixed_of kept
fixed_coded code kept =
    let low : (32 * (kept.one / 32) + code % 32) / 32 ≡ kept.one / 32 = omega arith in
    let high : (64 * (code / 32) + kept.two % 64) % 64 ≡ kept.two % 64 = omega arith in
    rw (low, high) refl

pub coded_again : (code later : ℕ) (kept : KeptBits) → with_code later (with_code code kept) ≡ with_code later kept
coded_again code later kept =
    let low : (32 * (kept.one / 32) + code % 32) / 32 ≡ kept.one / 32 = omega arith in
    let high : (64 * (code / 32) + kept.two % 64) % 64 ≡ kept.two % 64 = omega arith in
    rw (low, high) refl

pub code_cleared : (kept : KeptBits) → code_of (with_code 0 kept) ≡ 0
code_cleared kept = omega arith

pub coded_from_status : (status : List ℕ) (kept : KeptBits) → fixed_of kept ≡ fixed_of (kept_in status)
    → with_code (code_of (kept_in status)) kept ≡ kept_in status
coded_from_status status kept fixed =
    let one = ap (λ (f : ℕ × ℕ). f.0) fixed in let two = ap (λ (f : ℕ × ℕ). f.1) fixed in
    let low : 32 * (kept.one / 32) + code_of (kept_in status) % 32 ≡ slice_index status 0 / 4 = omega arith in
    let high : 64 * (code_of (kept_in status) / 32) + kept.two % 64 ≡ slice_index status 1 % 128 = omega arith in
    rw (low, high) refl

pub locked_same : (x y : KeptBits) → fixed_of y ≡ fixed_of x → is_locked y ≡ is_locked x
locked_same x y fixed =
    let two = ap (λ (f : ℕ × ℕ). f.1) fixed in
    let low : y.two % 2 ≡ x.two % 2 = omega arith in
    let high : y.one / 32 % 2 ≡ x.one / 32 % 2 = ap (λ (f : ℕ × ℕ). f.0 % 2) fixed in
    ap (λ (n : ℕ). n == 1 || y.two % 2 == 1) high ∙ ap (λ (n : ℕ). x.one / 32 % 2 == 1 || n == 1) low

pub writable_same : (x y : Chip) → y.config ≡ x.config → fixed_of y.kept ≡ fixed_of x.kept → is_writable y ≡ is_writable x
writable_same x y config fixed = grind (arith, locked_same x.kept y.kept fixed)
