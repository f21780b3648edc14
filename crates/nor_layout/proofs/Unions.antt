use Rattle.std.proofs.Common.{◌≡◌, ℕ, Bool, false, ◌&&◌, ◌||◌, List, [], ◌∷◌, refl, ap, ◌∙◌, arith}
use Rattle.std.specs.List.{list_any}
use Rattle.std.specs.Str.{bytes_eq}
use Rattle.nor_layout.specs.declared.region.Region.{Region}
use Rattle.nor_layout.specs.Included.{has_address, name_includes}

none : {A : Type 0} (xs : List A) → list_any (λ x. false) xs ≡ false
none [] = refl
none (x ∷ xs) = none xs

abbrev by_region : List (List ℕ) → ℕ → List Region → Bool
by_region names address regions =
    list_any (λ region. list_any (bytes_eq region.name.items) names && has_address region address) regions

by_region-cons : (name : List ℕ) (names : List (List ℕ)) (address : ℕ) (regions : List Region)
    → by_region (name ∷ names) address regions ≡ (name_includes regions address name || by_region names address regions)
by_region-cons name names address [] = refl
by_region-cons name names address (region ∷ regions) = grind (arith, by_region-cons name names address regions)

pub by_name : (names : List (List ℕ)) (regions : List Region) (address : ℕ)
    → by_region names address regions ≡ list_any (name_includes regions address) names
by_name [] regions address = none regions
by_name (name ∷ names) regions address =
    by_region-cons name names address regions
    ∙ ap (λ b. name_includes regions address name || b) (by_name names regions address)
