use Rattle.std.proofs.Common.{◌≡◌, ℕ, ◌*◌, ◌/◌, ◌<◌, ◌≤◌, inl, arith, refl, sym, ◌∙◌}
use Rattle.std.specs.Prelude.{Bool, true, false, ◌&&◌}
use Rattle.std.proofs.Math.Bool.{and-false}
use Rattle.std.proofs.lemmas.Bool.Decides.{nat_tests}
use Rattle.std.proofs.lemmas.Bool.{le-ltb, false_from_ne_true}
use Rattle.nor_model.specs.Chip.{Chip}
use Rattle.nor_model.specs.Guard.{protected_by, code_of, is_protected, is_block_protected}
use Rattle.nor_model.specs.Units.{LieAtAnEnd}
use Rattle.nor_model.proofs.Sizes.{sized_bounds}
use Rattle.nor_model.proofs.ProtectedAddresses.{ends_at, protected_by-end, protected_by-past, at_borders}

with_scheme : (scheme : Bool) (size : ℕ) (test : ℕ → Bool) → LieAtAnEnd size test
    → LieAtAnEnd size (λ a. scheme && test a)
with_scheme true size test ends = ends
with_scheme false size test ends = ends_at 0 (omega arith) (inl (λ a below. sym (le-ltb a 0 (omega arith))))

pub is_protected-end : (chip : Chip) → LieAtAnEnd chip.config.size (is_protected chip)
is_protected-end chip =
    with_scheme chip.config.scheme chip.config.size (protected_by chip.config.size (code_of chip.kept))
    (protected_by-end chip.config.size (code_of chip.kept) (sized_bounds chip.config))

pub is_protected-sector : (chip : Chip) (a : ℕ) → a < chip.config.size
    → is_block_protected chip (4096 * (a / 4096)) 4096 ≡ false → is_protected chip a ≡ false
is_protected-sector chip a below free =
    let blocks = (sized_bounds chip.config).blocks in
    false_from_ne_true (is_protected chip a) (λ protected.
    let there = at_borders chip.config.size (is_protected chip) (4096 * (a / 4096)) 4096 a (is_protected-end chip)
    (omega arith) (omega arith) (omega arith) protected in
    let both : true ≡ false = sym there ∙ free in cc)

pub is_protected-past : (chip : Chip) (a : ℕ) → chip.config.size ≤ a → is_protected chip a ≡ false
is_protected-past chip a past = rw (protected_by-past chip.config.size (code_of chip.kept) a past) (and-false chip.config.scheme)

pub is_protected-no_scheme : (chip : Chip) (a : ℕ) → chip.config.scheme ≡ false → is_protected chip a ≡ false
is_protected-no_scheme chip a none = rw none refl

protected_by-zero : (size a : ℕ) → protected_by size 0 a ≡ false
unfolding protected_by
protected_by-zero size a = grind (arith, nat_tests)

pub is_protected-zero : (chip : Chip) (a : ℕ) → code_of chip.kept ≡ 0 → is_protected chip a ≡ false
is_protected-zero chip a zeros = rw (zeros, protected_by-zero chip.config.size a) (and-false chip.config.scheme)

pub is_protected-same : (old new : Chip) → new.config ≡ old.config → new.kept ≡ old.kept → (a : ℕ)
    → is_protected new a ≡ is_protected old a
is_protected-same old new config kept a = cc
