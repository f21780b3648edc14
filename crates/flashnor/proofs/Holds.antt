-- Lemmas about locking and reading the chip's files: first the image, then the status file.
use Rattle.std.proofs.Common.{◌≡◌, ℕ, Bool, Option, None, Ok, IsSomeAnd, arith, false}
use Rattle.std.specs.Borrow.{Bor}
use Rattle.nor_files.specs.Calls.{Holds, IsPlaced}
use Rattle.nor_files.specs.Files.{FilesState, Found, IsKnownFile, IsDurable, KnownStay, Name}
use Rattle.nor_args.specs.Text.{Text}
use Rattle.nor_console.specs.Files.{IsLockingFault}
use Rattle.nor_console.specs.Stored.{IsFileFound}
use Rattle.nor_console.specs.declared.messages.Fault.{Fault}

pub missing_durable : {E : Type 0} {name : Name} {there : Bool} {old held new : FilesState} → there ≡ false
    → IsKnownFile name old.view → Holds {E = E} name (Ok there) old held → IsPlaced name held new
    → IsDurable name None new
missing_durable = grind arith

pub found_before : (name : Option (Bor Text)) (len : ℕ) (found : Found) (a b : FilesState)
    → b.view.nature ≡ a.view.nature → KnownStay a b → IsFileFound b.view name len found
    → IsFileFound a.view name len found
found_before name len found a b same stay is = grind arith

pub faults_before : (name : Option (Bor Text)) (len : ℕ) (fault : Fault) (a b : FilesState)
    → b.view.nature ≡ a.view.nature → KnownStay a b
    → IsSomeAnd name (λ given. IsLockingFault b.view given.now len fault)
    → IsSomeAnd name (λ given. IsLockingFault a.view given.now len fault)
faults_before name len fault a b same stay is = grind arith
