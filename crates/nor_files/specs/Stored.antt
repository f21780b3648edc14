-- The state of a file in memory, what a host crash may leave of the file, and the effects of calls on it.
use Rattle.std.specs.Prelude.{◌≡◌, ◌⊎◌, ◌&&◌, ◌||◌, ⊤, ℕ, Bool, true, false, List, [], ◌∷◌, Option, None, Some}
use Rattle.std.specs.Prelude.{Result, Ok, Err, if◌then◌else◌, is_some, not, option_map}
use Rattle.std.proofs.Common.{refl, inl, inr}
use Rattle.nor_journal.specs.MemVault.{held_by}
use Rattle.nor_journal.specs.Vault.{VaultState}
use Rattle.nor_files.specs.Files.{Found}
use Rattle.nor_files.specs.Calls.{IsMixed, with_length, written_over}
use Rattle.nor_files.specs.declared.stored.Change.{Change}
use Rattle.nor_files.specs.declared.stored.Change.TheVariants.{Cut, Lent, Written}
use Rattle.nor_files.specs.declared.stored.Content.{Content}
use Rattle.nor_files.specs.declared.stored.Content.TheVariants.{Plain, Vaulted}
use Rattle.nor_files.specs.declared.stored.Step.{Step}
use Rattle.nor_files.specs.declared.stored.Stored.{Stored}

abbrev pub bytes_in : Content → List ℕ
bytes_in (Plain bytes) = bytes.items
bytes_in (Vaulted vault) = (held_by vault).bytes

abbrev pub content_found : Option Content → Found
content_found content = option_map bytes_in content

pub record File : Type 0 where
  pub seen : Found
  pub steps : List Step
  -- whether a host crash may remove the file
  pub unplaced : Bool
  pub out : Bool

abbrev pub file_in : Stored → File
file_in stored = record {
  seen = content_found stored.content;
  steps = stored.steps.items;
  unplaced = stored.unplaced;
  out = stored.out;
}

abbrev pub missing : File
missing = record { seen = None; steps = []; unplaced = false; out = false }

-- Holds if `left` is a mix (`IsMixed`) of `bytes` and contents that the file may have had before.
abbrev pub IsMixOf : List ℕ → (Found → Type 0) → Found → Type 0
IsMixOf bytes MayHaveBeen left = (had : List ℕ) × MayHaveBeen (Some had)
    × ((has : List ℕ) × (left ≡ Some has) × IsMixed had bytes has)

abbrev pub IsCutOf : ℕ → (Found → Type 0) → Found → Type 0
IsCutOf len MayHaveBeen left = (had : List ℕ) × MayHaveBeen (Some had) × (left ≡ Some (with_length len had))

-- Holds if a change may turn contents that the file may have had before into `left`. `Lent` allows every `left`.
abbrev pub Becomes : Change → (Found → Type 0) → Found → Type 0
Becomes (Written bytes) MayHaveBeen left = IsMixOf bytes.items MayHaveBeen left
Becomes (Cut len) MayHaveBeen left = IsCutOf len MayHaveBeen left
Becomes Lent MayHaveBeen left = ⊤

-- Holds if `left` is the present contents `seen`, contents that the file may have had before the newest change, or a
-- result of this change on contents before it.
abbrev pub MayBe : List Step → Found → Found → Type 0
MayBe [] seen left = left ≡ seen
MayBe (step ∷ earlier) seen left = (left ≡ seen) ⊎ (MayBe earlier (content_found step.before) left
    ⊎ Becomes step.change (MayBe earlier (content_found step.before)) left)

-- If a host crash may remove the file (`true`), holds if `May` holds or `left` is None. Otherwise (`false`), holds if
-- `May` holds, and `left` is None if and only if `seen` is None.
abbrev pub OrMissing : Bool → Type 0 → (seen left : Found) → Type 0
OrMissing true May seen left = (left ≡ None) ⊎ May
OrMissing false May seen left = (is_some left ≡ is_some seen) × May

abbrev pub MayLeave : File → Found → Type 0
MayLeave file left = OrMissing file.unplaced (MayBe file.steps file.seen left) file.seen left

pub seen_may_be : (steps : List Step) (seen : Found) → MayBe steps seen seen
seen_may_be [] seen = refl
seen_may_be (step ∷ earlier) seen = inl refl

pub seen_or_missing : (unplaced : Bool) (May : Type 0) (seen : Found) → May → OrMissing unplaced May seen seen
seen_or_missing true May seen may = inr may
seen_or_missing false May seen may = (refl, may)

pub seen_may_stay : (file : File) → MayLeave file file.seen
seen_may_stay file =
    seen_or_missing file.unplaced (MayBe file.steps file.seen file.seen) file.seen (seen_may_be file.steps file.seen)

pub record IsChanged (content : Content) (change : Change) (old new : Stored) : Type 0 where
  pub name : new.name ≡ old.name
  pub file : file_in new ≡ record {
    seen = Some (bytes_in content);
    steps = record { before = old.content; change = change } ∷ old.steps.items;
    unplaced = old.unplaced;
    out = old.out;
  }

pub record IsUnchanged (old new : Stored) : Type 0 where
  pub name : new.name ≡ old.name
  pub file : file_in new ≡ file_in old

abbrev pub Alters : {T E : Type 0} → Result T E → Content → Change → (old new : Stored) → Type 0
Alters (Ok _) content change old new = IsChanged content change old new
Alters (Err _) content change old new = IsUnchanged old new

pub record FileWrites {T E : Type 0} (bytes : List ℕ) (result : Result T E) (old new : Stored) : Type 0 where
  pub name : new.name ≡ old.name
  pub out : new.out ≡ old.out
  pub seen : (any : T) → result ≡ Ok any → (file_in new).seen ≡ option_map (written_over bytes) (file_in old).seen
  pub leaves : (left : Found) → MayLeave (file_in new) left
      → MayLeave (file_in old) left ⊎ IsMixOf bytes (MayLeave (file_in old)) left

pub record FileSets {T E : Type 0} (len : ℕ) (result : Result T E) (old new : Stored) : Type 0 where
  pub name : new.name ≡ old.name
  pub out : new.out ≡ old.out
  pub seen : (any : T) → result ≡ Ok any → (file_in new).seen ≡ option_map (with_length len) (file_in old).seen
  pub leaves : (left : Found) → MayLeave (file_in new) left
      → MayLeave (file_in old) left ⊎ IsCutOf len (MayLeave (file_in old)) left

pub record FileSyncs (old new : Stored) : Type 0 where
  pub name : new.name ≡ old.name
  pub file : file_in new ≡ record (file_in old) { steps = [] }

pub record FilePlaces (old new : Stored) : Type 0 where
  pub name : new.name ≡ old.name
  pub file : file_in new ≡ record (file_in old) { unplaced = false }

pub record IsCreatedNow (old new : Stored) : Type 0 where
  pub name : new.name ≡ old.name
  pub missing : (file_in old).seen ≡ None
  pub file : file_in new ≡ record { seen = Some []; steps = []; unplaced = true; out = old.out }

abbrev pub FileCreates : {T E : Type 0} → Result T E → (old new : Stored) → Type 0
FileCreates (Ok _) old new = IsCreatedNow old new
FileCreates (Err _) old new = IsUnchanged old new

-- Holds if a vault or a log in the file was lent, so the file is empty. If the file had to be new (`is_new`), a host
-- crash can't remove it. Otherwise a host crash may remove a file that was missing, or that it could remove before.
pub record IsBorrowed (is_new : Bool) (old new : Stored) : Type 0 where
  pub name : new.name ≡ old.name
  pub missing : is_new ≡ true → (file_in old).seen ≡ None
  pub file : file_in new ≡ record {
    seen = Some [];
    steps = record { before = old.content; change = Lent } ∷ old.steps.items;
    unplaced = not is_new && (old.unplaced || not (is_some old.content));
    out = true;
  }

abbrev pub FileBorrows : {T E : Type 0} → Bool → Result T E → (old new : Stored) → Type 0
FileBorrows is_new (Ok _) old new = IsBorrowed is_new old new
FileBorrows is_new (Err _) old new = IsUnchanged old new

pub record FileIsDurable (bytes : List ℕ) (old new : Stored) : Type 0 where
  pub name : new.name ≡ old.name
  pub file : file_in new ≡ record { seen = Some bytes; steps = []; unplaced = false; out = false }

pub record FileTakesBack (vault : VaultState) (old new : Stored) : Type 0 where
  pub name : new.name ≡ old.name
  pub file : file_in new ≡ record {
    seen = Some vault.bytes;
    steps = (if vault.sealed then [] else old.steps.items);
    unplaced = (if vault.sealed then false else old.unplaced);
    out = false;
  }

pub record FileForgets (old new : Stored) : Type 0 where
  pub name : new.name ≡ old.name
  pub allowed : MayLeave (file_in old) (file_in new).seen

-- Holds if a read now returns what a host crash might have left, and a later host crash can leave nothing else.
pub record FileLoses (old new : Stored) : Type 0 where
  pub name : new.name ≡ old.name
  pub allowed : MayLeave (file_in old) (file_in new).seen
  pub file : file_in new ≡ record { seen = (file_in new).seen; steps = []; unplaced = false; out = false }
