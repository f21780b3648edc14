-- The contents of the files of a run: as they were read, and as the run leaves them.
use Rattle.std.specs.Prelude.{◌≡◌, ◌+◌, ℕ, List, Option, None, Some, IfSome, ⊤, length, true, unwrap_or}
use Rattle.std.specs.Borrow.{Bor}
use Rattle.nor_files.specs.Calls.{LeavesNoMore, LeavesOrEmpty, ReadsFile}
use Rattle.nor_files.specs.Files.{AreApart, Failure, FilesState, IsKnownFile, IsDurable, Nature, KeepsFile, View, is_lawful}
use Rattle.nor_files.specs.Files.Failure.{Unwritten}
use Rattle.nor_journal.specs.Vault.{VaultState}
use Rattle.nor_args.specs.Text.{Text}

-- Holds if a call on these files may fail in this way.
abbrev pub Happens : View → Failure → Type 0
Happens view failure = view.nature.fails failure ≡ true

-- Holds if `bytes` are the first `most` bytes of the named file (or all, if it has fewer), or if the file isn't known.
abbrev pub IsRead : View → Text → ℕ → List ℕ → Type 0
IsRead view name most bytes = ReadsFile name most (Some bytes) view

abbrev pub IsFileFound : View → Option (Bor Text) → ℕ → Option (List ℕ) → Type 0
IsFileFound view None len found = found ≡ None
IsFileFound view (Some name) len found = ReadsFile name.now (len + 1) found view

-- Holds if `bytes` are the `len` bytes of the named file, or `missing` if no file is named or the file is missing. If
-- the file isn't known (`IsKnownFile`), `bytes` are any `len` bytes or `missing`.
pub record AreOfFile (view : View) (name : Option (Bor Text)) (len : ℕ) (missing bytes : List ℕ) : Type 0 where
  pub found : Option (List ℕ)
  pub is_found : IsFileFound view name len found
  pub whole : IfSome found (λ all. length all ≡ len)
  pub same : bytes ≡ unwrap_or found missing

-- Holds if no file is named, if the files don't obey their contract, or if the named file durably has these bytes.
abbrev pub Has : Option (Bor Text) → List ℕ → FilesState → Type 0
Has None bytes files = ⊤
Has (Some name) bytes files = is_lawful files.view ≡ true → IsDurable name.now (Some bytes) files

-- Holds if `failed` is `None` and `Has` holds for `name`, or if `failed` is `name` and a write of this file may fail.
abbrev pub ArePut : Option (Bor Text) → List ℕ → Option (Bor Text) → FilesState → Type 0
ArePut name bytes None files = Has name bytes files
ArePut name bytes (Some failed) files = (name ≡ Some failed) × Happens files.view (Unwritten failed.now)

abbrev pub IsReportedOf : (name failed : Option (Bor Text)) → View → Type 0
IsReportedOf name None view = ⊤
IsReportedOf name (Some failed) view = (name ≡ Some failed) × Happens view (Unwritten failed.now)

abbrev pub IsNot : Nature → Option (Bor Text) → Text → Type 0
IsNot nature None name = ⊤
IsNot nature (Some other) name = AreApart nature other.now name

abbrev pub AreTwo : Nature → (one other : Option (Bor Text)) → Type 0
AreTwo nature None other = ⊤
AreTwo nature (Some one) other = IsNot nature other one.now

abbrev pub StaysOf : Option (Bor Text) → (old new : FilesState) → Type 0
StaysOf None old new = ⊤
StaysOf (Some name) old new = KeepsFile name.now old new

abbrev pub LeavesNoMoreOf : Option (Bor Text) → (old new : FilesState) → Type 0
LeavesNoMoreOf None old new = ⊤
LeavesNoMoreOf (Some name) old new = LeavesNoMore name.now old new

-- Holds if no file is named, or if the named file is missing or isn't known (`IsKnownFile`).
abbrev pub IsMissing : Option (Bor Text) → View → Type 0
IsMissing None view = ⊤
IsMissing (Some name) view = IsKnownFile name.now view → view.seen name.now ≡ None

-- If the named file was known (`IsKnownFile`): holds if a host crash in `new` can leave this file only as a crash in
-- `old` could, or empty if it was missing. Otherwise: always holds.
abbrev pub MakesNothing : Option (Bor Text) → (old new : FilesState) → Type 0
MakesNothing None old new = ⊤
MakesNothing (Some name) old new = IsKnownFile name.now old.view → LeavesOrEmpty name.now old new

-- Holds if the file has exactly the bytes of a faithful vault, and if they are durable when the vault is sealed.
pub record IsKeptFile (name : Text) (vault : VaultState) (files : FilesState) : Type 0 where
  pub telling : vault.telling ≡ true
  pub seen : files.view.seen name ≡ Some vault.bytes
  pub durable : vault.sealed ≡ true → IsDurable name (Some vault.bytes) files
