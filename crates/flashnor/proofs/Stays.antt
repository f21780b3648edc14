use Rattle.std.proofs.Common.{◌≡◌, Option, Some, arith}
use Rattle.std.specs.Borrow.{Bor}
use Rattle.nor_files.specs.Files.{AllStay, AreAtRest, FilesState, IsKnownFile, KnownStay, Name}
use Rattle.nor_files.specs.Files.{Nature, KeepsFile}
use Rattle.nor_console.specs.Stored.{AreTwo, IsNot}
use Rattle.nor_args.specs.Text.{Text}

pub not_that : (nature : Nature) (one : Option (Bor Text)) (file : Bor Text) → AreTwo nature one (Some file)
    → IsNot nature one file.now
not_that nature one file two = grind arith

abbrev pub StayApart : (one other : Option (Bor Text)) → (old new : FilesState) → Type 0
StayApart one other old new = (any : Name) → IsNot old.view.nature one any → IsNot old.view.nature other any
    → KeepsFile any old new

pub known_at_rest : {files : FilesState} → AreAtRest files → (name : Name) → IsKnownFile name files.view
known_at_rest rest name = grind arith

pub known_stay_on : {old mid new : FilesState} → mid.view.nature ≡ old.view.nature → KnownStay old mid
    → KnownStay mid new → KnownStay old new
known_stay_on same one two name known = grind arith

pub rest_on : {old new : FilesState} → new.view.nature ≡ old.view.nature → AreAtRest old → AllStay old new
    → AreAtRest new
rest_on same rest stay = grind arith
