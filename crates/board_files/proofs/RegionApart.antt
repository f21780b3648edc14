use Rattle.std.proofs.Common.{◌≡◌, ℕ, ◌+◌, ◌<◌, ◌∙◌, All, List, arith, get_or, length, subst, sym, take}
use Rattle.std.specs.List.{AllPairs, Any}
use Rattle.std.proofs.lemmas.List.{get_or-take, get_or_default, length-take-le, take_more}
use Rattle.std.proofs.lemmas.List.Quantifiers.{all_pairs_push}
use Rattle.nor_files.specs.Files.{AreApart, Nature}
use Rattle.board_files.specs.RegionRoles.{AnyPair, AreTwoFiles}
use Rattle.board_files.specs.declared.region_files.RegionFile.{RegionFile}

pub distinct_more : (nature : Nature) (files : List RegionFile) (i : ℕ) (d : RegionFile) → i < length files
    → AllPairs (AreTwoFiles nature) (take i files)
    → All (λ other. AreApart nature (get_or files i d).file.now other.file.now) (take i files)
    → AllPairs (AreTwoFiles nature) (take (i + 1) files)
distinct_more nature files i d lt before apart =
    subst (λ (some : List RegionFile). AllPairs (AreTwoFiles nature) some) (sym (take_more files i d lt))
    (all_pairs_push (AreTwoFiles nature) (take i files) (get_or files i d) before apart)

pub any_at : {X : Type 0} (P : X → Type 0) (xs : List X) (i : ℕ) (d : X) → i < length xs → P (get_or xs i d)
    → Any P xs
any_at P xs i d lt holds = (i, get_or xs i d, lt, get_or_default xs i (get_or xs i d) d lt, holds)

pub pair_at : {X : Type 0} (R : X → X → Type 0) (xs : List X) (j : ℕ) (d : X) → j < length xs
    → Any (λ earlier. R earlier (get_or xs j d)) (take j xs) → AnyPair R xs
pair_at R xs j d lt found =
    let before : found.0 < j = omega (arith, found.2, length-take-le j xs (omega (arith, lt))) in
    let is : get_or xs found.0 d ≡ found.1 = get_or_default xs found.0 d found.1 (omega (arith, before, lt))
    ∙ sym (get_or-take j xs found.0 found.1 before) ∙ found.3 in
    (found.0, j, d, before, lt, subst (λ earlier. R earlier (get_or xs j d)) (sym is) found.4)
