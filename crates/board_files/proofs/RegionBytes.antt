use Rattle.std.proofs.Common.{◌+◌, ◌<◌, ℕ, List, [], ◌∷◌, ◌++◌, get_or, length, refl, subst, sym, take}
use Rattle.std.proofs.lemmas.List.{take_more}
use Rattle.nor_files.specs.Files.{View}
use Rattle.board_files.specs.Regions.{AreReplaced, IsReplaced}
use Rattle.board_files.specs.declared.region_files.RegionFile.{RegionFile}

pub replaced_more : (view : View) (xs : List RegionFile) (region : RegionFile) (old mid new : List ℕ)
    → AreReplaced view xs old mid → IsReplaced view region mid new → AreReplaced view (xs ++ region ∷ []) old new
replaced_more view [] region old mid new is one =
    (new, subst (λ (bytes : List ℕ). IsReplaced view region bytes new) is one, refl)
replaced_more view (x ∷ xs) region old mid new is one =
    (is.0, is.1, replaced_more view xs region is.0 mid new is.2 one)

pub replaced_at : (view : View) (files : List RegionFile) (i : ℕ) (d : RegionFile) (old mid new : List ℕ)
    → i < length files → AreReplaced view (take i files) old mid → IsReplaced view (get_or files i d) mid new
    → AreReplaced view (take (i + 1) files) old new
replaced_at view files i d old mid new lt is one =
    subst (λ (some : List RegionFile). AreReplaced view some old new) (sym (take_more files i d lt))
    (replaced_more view (take i files) (get_or files i d) old mid new is one)
