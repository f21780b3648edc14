-- On lawful files, `one` and `other` are apart if a read, a host crash or a borrowed vault or log distinguishes them.
use Rattle.std.proofs.Common.{◌≡◌, Bool, true, false, inl, refl, sym}
use Rattle.nor_files.specs.Files.{AreApart, FilesState, Name, is_lawful}
use Rattle.nor_files.specs.OneFile.{AreOneFile, NamesAreOfOne}

is_true : (b : Bool) → (b ≡ false → ⊥) → b ≡ true
is_true true differs = refl
is_true false differs = absurd (differs refl)

module _ (files : FilesState) (lawful : is_lawful files.view ≡ true) (law : NamesAreOfOne files)
    (one other : Name) (differ : AreOneFile one other files → ⊥) where
  turned : AreOneFile other one files → AreOneFile one other files
  turned are = record { seen = sym are.seen; out = sym are.out; leaves = are.back; back = are.leaves }

  pub apart_if_other : AreApart files.view.nature one other
  apart_if_other = (
    is_true (files.view.nature.apart one other) (λ is. differ (law lawful one other (inl is))),
    is_true (files.view.nature.apart other one) (λ is. differ (turned (law lawful other one (inl is)))),
  )
