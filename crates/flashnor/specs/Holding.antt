-- The chip's files in a run that changes the chip: from when they are locked and read until they are written back.
use Rattle.std.specs.Prelude.{◌≡◌, ◌⊎◌, ◌∷◌, [], ℕ, Bool, true, false, List, Option, None, Some, ⊤, length, replicate}
use Rattle.std.specs.Borrow.{Bor}
use Rattle.nor_files.specs.Calls.{IsMixed}
use Rattle.nor_model.specs.Chip.{Chip}
use Rattle.nor_chip.specs.Start.{AreChipBytes}
use Rattle.nor_model.specs.Chip.{status_of}
use Rattle.nor_files.specs.Files.{AllStay, FilesState, Found, IsKnownFile, IsDurable}
use Rattle.nor_args.specs.declared.programmer.Programmer.{Programmer}
use Rattle.nor_args.specs.Text.{Text}
use Rattle.flashnor.specs.Found.{emulated_part}
use Rattle.flashnor.specs.declared.holding.Held.{Held}

-- Holds if no file is named, or if the named file durably has these contents (`None` if it is missing).
abbrev pub MakesDurable : Option (Bor Text) → Found → FilesState → Type 0
MakesDurable None content files = ⊤
MakesDurable (Some name) content files = IsDurable name.now content files

-- Holds if no file changed, and the named file, if any, durably has the contents `found` (`None` if it is missing).
pub record IsHeld (name : Option (Bor Text)) (found : Found) (old new : FilesState) : Type 0 where
  pub stay : AllStay old new
  pub durable : MakesDurable name found new

abbrev pub was : (there : Bool) → List ℕ → Found
was true bytes = Some bytes
was false bytes = None

pub record AreHeld (programmer : Programmer) (held : Held) (old new : FilesState) : Type 0 where
  pub stay : AllStay old new
  pub image : MakesDurable programmer.image (was held.image_there held.content.bytes.items) new
  pub status : MakesDurable programmer.status (was held.status_there held.content.status) new

pub record FillsMissing (programmer : Programmer) (held : Held) : Type 0 where
  pub image : held.image_there ≡ false
      → held.content.bytes.items ≡ replicate (emulated_part programmer.chip).size 255
  pub status : held.status_there ≡ false → held.content.status ≡ 0 ∷ 0 ∷ []

-- Holds if a host crash may leave `left` while `bytes` are written to a file. If the file existed (`there`), `left` is
-- a mix of the old bytes `had` and `bytes`. If not, `left` is `None`, is `bytes`, or has another length than `bytes`.
abbrev pub IsAmid : (there : Bool) → (had bytes : List ℕ) → Found → Type 0
IsAmid true had bytes left = (has : List ℕ) × (left ≡ Some has) × IsMixed had bytes has
IsAmid false had bytes left = (left ≡ None)
    ⊎ ((has : List ℕ) × (left ≡ Some has) × (length has ≡ length bytes → has ≡ bytes))

abbrev pub LeavesFileAmid : Text → (there : Bool) → (had bytes : List ℕ) → FilesState → Type 0
LeavesFileAmid name there had bytes files = (left : Found) → files.may_leave name left → IsAmid there had bytes left

abbrev pub LeavesAmid : Option (Bor Text) → (there : Bool) → (had bytes : List ℕ) → FilesState → Type 0
LeavesAmid None there had bytes files = ⊤
LeavesAmid (Some name) there had bytes files = LeavesFileAmid name.now there had bytes files

-- Holds if the file is known, and `had` is as long as `bytes`. If `there` is true, the file must durably have the bytes
-- `had`. If not, it must be durably missing.
pub record IsReadyFile (name : Text) (there : Bool) (had bytes : List ℕ) (files : FilesState) : Type 0 where
  pub known : IsKnownFile name files.view
  pub durable : IsDurable name (was there had) files
  pub as_many : length had ≡ length bytes

abbrev pub IsReadyIfNamed : Option (Bor Text) → (there : Bool) → (had bytes : List ℕ) → FilesState → Type 0
IsReadyIfNamed None there had bytes files = ⊤
IsReadyIfNamed (Some name) there had bytes files = IsReadyFile name.now there had bytes files

pub record AreReady (programmer : Programmer) (image_there status_there : Bool) (bytes bits : List ℕ) (new : Chip)
    (files : FilesState) : Type 0 where
  pub image : (put : List ℕ) → AreChipBytes new put → IsReadyIfNamed programmer.image image_there bytes put files
  pub status : IsReadyIfNamed programmer.status status_there bits (status_of new) files

pub record AreAmid (programmer : Programmer) (image_there status_there : Bool) (had bits : List ℕ) (new : Chip)
    (files : FilesState) : Type 0 where
  pub put : List ℕ
  pub are : AreChipBytes new put
  pub image : LeavesAmid programmer.image image_there had put files
  pub status : LeavesAmid programmer.status status_there bits (status_of new) files
