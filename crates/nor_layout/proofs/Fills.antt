use Rattle.std.proofs.Common.{◌≡◌, ℕ, ◌<◌, false, List, [], ◌∷◌, refl, arith}
use Rattle.std.proofs.lemmas.Bool.Decides.{nat_tests}
use Rattle.nor_layout.specs.declared.positions.Positions.{Positions}
use Rattle.nor_layout.specs.Positions.{is_covered, AreRisingFrom}

pub is_covered-below : (first : ℕ) (all : List Positions) (at : ℕ) → AreRisingFrom first all → at < first → is_covered all at ≡ false
is_covered-below first [] at rising lt = refl
is_covered-below first (positions ∷ more) at rising lt =
    grind (arith, nat_tests, is_covered-below positions.end more at rising.3)
