-- The state of a run's files in contracts. Each file is referred to by a name.
use Rattle.std.specs.Prelude.{◌≡◌, ℕ, Bool, true, false, List, Option}

abbrev pub Name : Type 0
Name = List ℕ

-- the bytes of a file, or `None` if it is missing
abbrev pub Found : Type 0
Found = Option (List ℕ)

-- A condition of a named file, or of two names, that a call may find or return as an error.
pub data Failure : Type 0 where
  -- the file can't be looked up, opened or read, a read of it may block forever, or memory runs out
  Unread : Name → Failure
  -- a file or link of this name exists, but can't be opened for overwriting, or can't be locked
  Unheld : Name → Failure
  Busy : Name → Failure
  -- the file can't be created, read, truncated or locked for a vault or log, or its directory can't be synced
  Unmade : Name → Failure
  -- a file or link of this name exists, or the file is a journal, which isn't truncated
  There : Name → Failure
  -- the file can't be created, changed or synced, its directory can't be synced, or a later run would not find what was
  -- written (see `still_has` and `is_kept`)
  Unwritten : Name → Failure
  -- the two names refer to one file
  Shared : Name → Name → Failure
  -- the file is a regular file to which the program prints
  Printed : Name → Failure

-- The properties that a store of files keeps in all calls.
pub record Nature : Type 0 where
  -- whether the files obey the contract
  pub lawful : Bool
  -- true for each failure that a call may ever find or return
  pub fails : Failure → Bool
  -- whether two names are apart; other names may refer to one file even if they differ, as `a` and `./a` do
  pub apart : Name → Name → Bool

-- The part of the state that determines what a read returns.
pub record View : Type 0 where
  pub nature : Nature
  -- whether a vault or a log in the file of this name is borrowed, so that its bytes are unknown
  pub out : Name → Bool
  pub seen : Name → Found

pub record FilesState : Type 1 where
  pub view : View
  -- The greatest number of calls of `hold`, `sync`, `sync_folder`, `write_over`, `set_len`, `make`, `vault_in_new` and
  -- `vault_in` that can still succeed. If it is 0, each of these calls on lawful files fails and changes nothing.
  pub left : ℕ
  -- the name of the file whose vault was borrowed last and not yet taken back
  pub borrowed : Option Name
  -- the contents that a host crash at this moment may leave of the file of this name
  pub may_leave : Name → Found → Type 0

abbrev pub is_lawful : View → Bool
is_lawful view = view.nature.lawful

abbrev pub AreApart : Nature → (one other : Name) → Type 0
AreApart nature one other = (nature.apart one other ≡ true) × (nature.apart other one ≡ true)

-- Holds if the files obey the contract, and no vault or log in the named file is borrowed.
pub record IsKnownFile (name : Name) (view : View) : Type 0 where
  pub lawful : is_lawful view ≡ true
  pub in_store : view.out name ≡ false

pub record AreAtRest (files : FilesState) : Type 0 where
  pub lawful : is_lawful files.view ≡ true
  pub in_store : (name : Name) → files.view.out name ≡ false

-- Holds if the file is as it was, and a host crash can leave only what it could leave before.
pub record KeepsFile (name : Name) (old new : FilesState) : Type 0 where
  pub out : new.view.out name ≡ old.view.out name
  pub seen : new.view.seen name ≡ old.view.seen name
  pub leaves : (left : Found) → new.may_leave name left → old.may_leave name left

pub record AreUntouched (old new : FilesState) : Type 0 where
  pub view : new.view ≡ old.view
  pub leaves : (name : Name) (left : Found) → new.may_leave name left → old.may_leave name left

abbrev pub AllStay : (old new : FilesState) → Type 0
AllStay old new = (name : Name) → KeepsFile name old new

abbrev pub KnownStay : (old new : FilesState) → Type 0
KnownStay old new = (name : Name) → IsKnownFile name old.view → KeepsFile name old new

-- Holds if each file whose name is apart from `name` is as it was.
abbrev pub OthersStay : Name → (old new : FilesState) → Type 0
OthersStay name old new = (other : Name) → AreApart old.view.nature name other → KeepsFile other old new

-- Holds if a read of the file returns exactly `content`, and a host crash can leave nothing else of it.
pub record IsDurable (name : Name) (content : Found) (files : FilesState) : Type 0 where
  pub seen : files.view.seen name ≡ content
  pub leaves : (left : Found) → files.may_leave name left → left ≡ content
