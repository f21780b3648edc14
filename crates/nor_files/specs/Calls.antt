-- The effects of the calls on files that obey the contract.
use Rattle.std.specs.Prelude.{◌≡◌, ◌≤◌, ◌+◌, ◌-◌, ◌⊎◌, ◌++◌, ℕ, Bool, true, false, List, [], None, Some, Result, Ok, Err}
use Rattle.std.specs.Prelude.{drop, is_some, length, max, option_map, replicate, slice_index, take}
use Rattle.nor_journal.specs.Vault.{VaultState}
use Rattle.nor_files.specs.Files.{AllStay, FilesState, Found, IsKnownFile, IsDurable, Name, OthersStay, KeepsFile, View}

-- If the file is known (`IsKnownFile`), holds if `found` is its first `most` bytes, or `None` for a missing file.
-- Otherwise, always holds.
abbrev pub ReadsFile : Name → ℕ → Found → View → Type 0
ReadsFile name most found view = IsKnownFile name view → found ≡ option_map (take most) (view.seen name)

pub record Succeeds (old new : FilesState) : Type 0 where
  pub left : old.left ≡ new.left + 1

-- Holds if no more calls can succeed than before and, if none could, each file is as it was.
pub record Fails (old new : FilesState) : Type 0 where
  pub left : new.left ≤ old.left
  pub none_left : old.left ≡ 0 → AllStay old new

abbrev pub Counts : {T E : Type 0} → Result T E → (old new : FilesState) → Type 0
Counts (Ok _) old new = Succeeds old new
Counts (Err _) old new = Fails old new

-- Holds if `Counts` holds, no vault was lent or taken back, and files with names apart from `name` didn't change.
pub record WorksOn {T E : Type 0} (name : Name) (result : Result T E) (old new : FilesState) : Type 0 where
  pub counts : Counts result old new
  pub borrowed : new.borrowed ≡ old.borrowed
  pub out : new.view.out name ≡ old.view.out name
  pub others : OthersStay name old new

-- Holds if `Counts` holds, no vault was lent or taken back, each file is as it was, and a success returned whether the
-- file (if known) exists.
pub record Holds {E : Type 0} (name : Name) (result : Result Bool E) (old new : FilesState) : Type 0 where
  pub counts : Counts result old new
  pub borrowed : new.borrowed ≡ old.borrowed
  pub stay : AllStay old new
  pub there : (there : Bool) → result ≡ Ok there → IsKnownFile name old.view → there ≡ is_some (old.view.seen name)

-- Holds if a read returns the same as before, and a host crash leaves these contents or, if it could before, no file.
pub record IsSynced (name : Name) (old new : FilesState) : Type 0 where
  pub seen : new.view.seen name ≡ old.view.seen name
  pub leaves : (left : Found) → new.may_leave name left
      → (left ≡ old.view.seen name) ⊎ ((left ≡ None) × old.may_leave name None)

-- Holds if a read returns the same as before, and a host crash can leave only what it could leave before, but can
-- neither remove the file nor create it.
pub record IsPlaced (name : Name) (old new : FilesState) : Type 0 where
  pub seen : new.view.seen name ≡ old.view.seen name
  pub leaves : (left : Found) → new.may_leave name left
      → old.may_leave name left × (is_some left ≡ is_some (old.view.seen name))

abbrev pub LeavesNoMore : Name → (old new : FilesState) → Type 0
LeavesNoMore name old new = (left : Found) → new.may_leave name left → old.may_leave name left

abbrev pub LeaveNoMore : (old new : FilesState) → Type 0
LeaveNoMore old new = (name : Name) → LeavesNoMore name old new

-- Holds if a host crash can leave only what it could leave before, or an empty file if the file was missing.
abbrev pub LeavesOrEmpty : Name → (old new : FilesState) → Type 0
LeavesOrEmpty name old new = (left : Found) → new.may_leave name left
    → old.may_leave name left ⊎ ((old.view.seen name ≡ None) × (left ≡ Some []))

-- Holds if the sync succeeded as `IsSynced` says, or if it failed and a host crash can leave only what it could before.
abbrev pub Syncs : {T E : Type 0} → Name → Result T E → (old new : FilesState) → Type 0
Syncs name (Ok _) old new = IsSynced name old new
Syncs name (Err _) old new = LeavesNoMore name old new

abbrev pub Places : {T E : Type 0} → Name → Result T E → (old new : FilesState) → Type 0
Places name (Ok _) old new = IsPlaced name old new
Places name (Err _) old new = KeepsFile name old new

-- Holds if `has` has at each index the byte of `had` or of `bytes` (0 past the end of a list), is at least as long as
-- `had`, and is at most as long as the longer of `had` and `bytes`.
pub record IsMixed (had bytes has : List ℕ) : Type 0 where
  pub shortest : length had ≤ length has
  pub longest : length has ≤ max (length had) (length bytes)
  pub each : (i : ℕ) → (slice_index has i ≡ slice_index had i) ⊎ (slice_index has i ≡ slice_index bytes i)

-- Holds if a host crash can leave only what it could leave before, or a mix of one of these contents and `bytes`.
abbrev pub LeavesMixes : Name → List ℕ → (old new : FilesState) → Type 0
LeavesMixes name bytes old new = (left : Found) → new.may_leave name left → old.may_leave name left
    ⊎ ((had : List ℕ) × old.may_leave name (Some had) × ((has : List ℕ) × (left ≡ Some has) × IsMixed had bytes has))

abbrev pub written_over : List ℕ → List ℕ → List ℕ
written_over bytes had = bytes ++ drop (length bytes) had

abbrev pub with_length : ℕ → List ℕ → List ℕ
with_length len had = take len had ++ replicate (len - length had) 0

-- Holds if a success overwrote the file and, even after a failure, a host crash leaves only what `LeavesMixes` allows.
pub record WritesOver {T E : Type 0} (name : Name) (bytes : List ℕ) (result : Result T E)
    (old new : FilesState) : Type 0 where
  pub seen : (any : T) → result ≡ Ok any → new.view.seen name ≡ option_map (written_over bytes) (old.view.seen name)
  pub leaves : LeavesMixes name bytes old new

-- Holds if a success set the length and, even after a failure, a host crash leaves only contents that it could leave
-- before, perhaps with their length set to `len`.
pub record SetsLength {T E : Type 0} (name : Name) (len : ℕ) (result : Result T E) (old new : FilesState) : Type 0 where
  pub seen : (any : T) → result ≡ Ok any → new.view.seen name ≡ option_map (with_length len) (old.view.seen name)
  pub leaves : (left : Found) → new.may_leave name left → old.may_leave name left
      ⊎ ((had : List ℕ) × old.may_leave name (Some had) × (left ≡ Some (with_length len had)))

pub record IsCreated (name : Name) (old new : FilesState) : Type 0 where
  pub missing : old.view.seen name ≡ None
  pub seen : new.view.seen name ≡ Some []
  pub leaves : (left : Found) → new.may_leave name left → old.may_leave name left ⊎ (left ≡ Some [])

abbrev pub Creates : {T E : Type 0} → Name → Result T E → (old new : FilesState) → Type 0
Creates name (Ok _) old new = IsCreated name old new
Creates name (Err _) old new = KeepsFile name old new

pub record Borrows (name : Name) (old new : FilesState) : Type 0 where
  pub succeeds : Succeeds old new
  pub borrowed : new.borrowed ≡ Some name
  pub out : new.view.out name ≡ true
  pub others : OthersStay name old new

-- Holds if a call that lends a vault failed, and a host crash leaves of a known file only what `LeavesOrEmpty` allows.
pub record BorrowsNone (name : Name) (old new : FilesState) : Type 0 where
  pub fails : Fails old new
  pub leaves : IsKnownFile name old.view → LeavesOrEmpty name old new

-- Holds if the file has exactly the bytes of the faithful vault that was taken back, durably if the vault is sealed,
-- and files with names apart from `name` didn't change.
pub record TakesBack (name : Name) (vault : VaultState) (old new : FilesState) : Type 0 where
  pub borrowed : new.borrowed ≡ None
  pub in_store : new.view.out name ≡ false
  pub telling : vault.telling ≡ true
  pub seen : new.view.seen name ≡ Some vault.bytes
  pub durable : vault.sealed ≡ true → IsDurable name (Some vault.bytes) new
  pub others : OthersStay name old new
