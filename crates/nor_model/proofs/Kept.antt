-- The two status bytes of a chip contain its non-volatile status bits.
use Rattle.std.proofs.Common.{◌≡◌, ◌<◌, ◌+◌, ◌*◌, ◌/◌, ◌==◌, ◌∙◌, ℕ, Bool, ap, arith, if◌then◌else◌}
use Rattle.nor_model.specs.Chip.{Chip, KeptBits, kept_in}
use Rattle.nor_model.specs.Chip.{status_of}

abbrev bits : (one two : ℕ) → KeptBits
bits one two = record { one = one; two = two }

pub kept_same : (x y : KeptBits) → x.one ≡ y.one → x.two ≡ y.two → x ≡ y
kept_same x y one two = ap (λ (n : ℕ). bits n x.two) one ∙ ap (bits y.one) two

quarter : (one : ℕ) (latch idle : Bool) → (4 * one + (if latch then 2 else 0) + (if idle then 0 else 1)) / 4 ≡ one
quarter one latch idle = grind arith

pub kept_in-status_of : (chip : Chip) → chip.kept.two < 128 → kept_in (status_of chip) ≡ chip.kept
kept_in-status_of chip small =
    kept_same (kept_in (status_of chip)) chip.kept (quarter chip.kept.one chip.latch (chip.busy == 0)) (omega (arith, small))
