-- The chip that a later run opens from its files, for all contents of these files that a host crash may leave.
use Rattle.std.proofs.Common.{◌≡◌, ℕ, Bool, List, Option, ◌⊎◌, IfSome, arith, false, length}
use Rattle.std.proofs.Common.{slice_index, unwrap_or}
use Rattle.std.specs.Borrow.{Bor}
use Rattle.std.proofs.lemmas.List.{length-replicate}
use Rattle.nor_files.specs.Files.{AllStay, FilesState, Found, View}
use Rattle.nor_args.specs.Text.{Text}
use Rattle.nor_args.specs.declared.programmer.Programmer.{Programmer}
use Rattle.flashnor.specs.Found.{emulated_part}
use Rattle.flashnor.specs.Holding.{LeavesAmid, MakesDurable, was}
use Rattle.flashnor.specs.Left.{LeavesAsLong, MayFind, Opened}
use Rattle.nor_console.specs.Stored.{AreOfFile}

module _ {programmer : Programmer} {files : FilesState} (first : Opened programmer files) where
  pub opened_size : first.bus.chip.config.size ≡ (emulated_part programmer.chip).size
  opened_size = grind arith

  pub opened_many : length first.content.bytes.items ≡ first.bus.chip.config.size
  opened_many = grind (arith, opened_size, length-replicate)

abbrev pub IsEither : (had bytes has : List ℕ) → Type 0
IsEither had bytes has = (i : ℕ) → (slice_index has i ≡ slice_index had i) ⊎ (slice_index has i ≡ slice_index bytes i)

-- At each index, what a later run opens (`left`, or `missing` if there is no file) has the byte of `had` or of `bytes`.
pub found_either : (view : View) (named : Option (Bor Text)) (len : ℕ) (missing had bytes : List ℕ)
    (are : AreOfFile view named len missing had) (there : Bool) (files : FilesState) (left : Found)
    → (there ≡ false → had ≡ missing) → LeavesAmid named there had bytes files → MayFind named are.found left files
    → IfSome left (λ has. length has ≡ length bytes) → IsEither had bytes (unwrap_or left missing)
found_either view named len missing had bytes are there files left gone amid can whole i = grind arith

pub as_long : (name : Option (Bor Text)) (there : Bool) (had put : List ℕ) (s0 s1 s3 : FilesState) → AllStay s0 s1
    → MakesDurable name (was there had) s1 → length had ≡ length put → LeavesAmid name there had put s3
    → LeavesAsLong name s0 s3
as_long name there had put s0 s1 s3 stay durable many amid = grind arith
