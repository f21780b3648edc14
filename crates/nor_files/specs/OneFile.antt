use Rattle.std.specs.Prelude.{◌≡◌, ◌⊎◌, true, false}
use Rattle.nor_files.specs.Files.{FilesState, Found, Name, Nature, is_lawful}
use Rattle.nor_files.specs.Files.Failure.{Shared}

-- Holds if a store of this nature may treat the two names as names of one file.
abbrev pub MayBeOneFile : Nature → (one other : Name) → Type 0
MayBeOneFile nature one other = (nature.apart one other ≡ false) ⊎ (nature.fails (Shared one other) ≡ true)

pub record AreOneFile (one other : Name) (files : FilesState) : Type 0 where
  pub seen : files.view.seen one ≡ files.view.seen other
  pub out : files.view.out one ≡ files.view.out other
  pub leaves : (left : Found) → files.may_leave one left → files.may_leave other left
  pub back : (left : Found) → files.may_leave other left → files.may_leave one left

-- Holds if, on lawful files, names that may be of one file agree on contents, lending and what a host crash may leave.
abbrev pub NamesAreOfOne : FilesState → Type 0
NamesAreOfOne files = is_lawful files.view ≡ true → (one other : Name) → MayBeOneFile files.view.nature one other
    → AreOneFile one other files
