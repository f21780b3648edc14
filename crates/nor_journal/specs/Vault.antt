-- The state of a vault in contracts, and the effects of its two calls.
use Rattle.std.specs.Prelude.{◌≡◌, ◌≢◌, ℕ, ◌+◌, ◌%◌, ◌^◌, ◌≤◌, Bool, true, false, List, [], ◌++◌, length, take, Option, None, Some, Result, Ok, Err, if◌then◌else◌}
use Rattle.std.proofs.lemmas.Bool.{false≢true}
use Rattle.std.specs.Io.{StartsWith}
use Rattle.nor_journal.specs.declared.vault.VaultFault.{VaultFault}

pub record VaultState : Type 0 where
  -- true for a faithful vault, which holds exactly the bytes that it accepted
  pub telling : Bool
  -- The accepted bytes, in order. For a vault that isn't faithful, the contracts of `put` and `seal` promise only that
  -- this list isn't empty from the first accepted byte until the seal.
  pub bytes : List ℕ
  pub sealed : Bool
  pub failures : ℕ

abbrev pub new_vault : Bool → VaultState
new_vault telling = record { telling = telling; bytes = []; sealed = false; failures = 0 }

abbrev pub one_more_failure : (failures : ℕ) → ℕ
one_more_failure failures = (failures + 1) % 2 ^ 64

abbrev pub CountsRefusal : (old new : VaultState) → Type 0
CountsRefusal old new = new.failures ≢ old.failures

-- Holds if the vault accepted `piece`, which a faithful vault appends to its bytes.
pub record Took (old : VaultState) (piece : List ℕ) (new : VaultState) : Type 0 where
  pub telling : new.telling ≡ old.telling
  pub sealed : new.sealed ≡ old.sealed
  pub failures : new.failures ≡ old.failures
  pub bytes : old.telling ≡ true → new.bytes ≡ old.bytes ++ piece
  pub empty : new.bytes ≡ [] → (old.bytes ≡ []) × (piece ≡ [])

-- Holds if the vault refused a call, so the number of refusals is one higher (modulo 2^64).
pub record Refused (old new : VaultState) : Type 0 where
  pub telling : new.telling ≡ old.telling
  pub sealed : new.sealed ≡ old.sealed
  pub failures : new.failures ≡ one_more_failure old.failures

-- Holds if the vault refused `piece` after its first `kept` bytes, which a faithful vault appended.
pub record PutRefused (old : VaultState) (piece : List ℕ) (kept : ℕ) (new : VaultState) : Type 0 where
  pub refused : Refused old new
  pub within : kept ≤ length piece
  pub bytes : old.telling ≡ true → new.bytes ≡ old.bytes ++ take kept piece
  pub empty : new.bytes ≡ [] → (old.bytes ≡ []) × (kept ≡ 0)

pub record Sealed (old new : VaultState) : Type 0 where
  pub telling : new.telling ≡ old.telling
  pub sealed : new.sealed ≡ true
  pub failures : new.failures ≡ old.failures
  pub bytes : old.telling ≡ true → new.bytes ≡ old.bytes

abbrev pub Puts : {T : Type 0} → (old : VaultState) → (piece : List ℕ) → Result T VaultFault
    → (new : VaultState) → Type 0
Puts old piece (Ok _) new = Took old piece new
Puts old piece (Err fault) new = PutRefused old piece fault.kept new

abbrev pub Seals : {T : Type 0} → (old : VaultState) → Result T VaultFault → (new : VaultState) → Type 0
Seals old (Ok _) new = Sealed old new
Seals old (Err fault) new = PutRefused old [] fault.kept new

-- Holds if a host crash would leave exactly the contents of a sealed vault's file, if these are known. `synced` is what
-- a host crash would leave of the file.
abbrev pub IsSyncedIfSealed : (sealed : Bool) → (contents synced : Option (List ℕ)) → Type 0
IsSyncedIfSealed sealed contents synced =
    sealed ≡ true → (bytes : List ℕ) → contents ≡ Some bytes → synced ≡ Some bytes

-- The contents of a file that the seal syncs, or `None` before the seal.
abbrev pub synced_from_seal : (sealed : Bool) → (contents : Option (List ℕ)) → Option (List ℕ)
synced_from_seal sealed contents = if sealed then contents else None

pub synced_if_sealed : (sealed : Bool) (contents : Option (List ℕ))
    → IsSyncedIfSealed sealed contents (synced_from_seal sealed contents)
synced_if_sealed true contents is bytes same = same
synced_if_sealed false contents is bytes same = absurd (false≢true is)

-- Holds if the vault isn't faithful, or its bytes are a prefix of `whole`.
abbrev pub HoldsPrefix : VaultState → (whole : List ℕ) → Type 0
HoldsPrefix vault whole = vault.telling ≡ true → StartsWith whole vault.bytes

pub record IsFresh (vault : VaultState) : Type 0 where
  pub empty : vault.bytes ≡ []
  pub unsealed : vault.sealed ≡ false

-- Holds if the vault accepted all pieces that a call put in it, so no refusal was counted.
pub record Accepted (old new : VaultState) : Type 0 where
  pub telling : new.telling ≡ old.telling
  pub sealed : new.sealed ≡ old.sealed
  pub failures : new.failures ≡ old.failures

-- Holds if a call of `Writer` succeeded and the vault accepted every piece, or failed and the vault refused a piece.
abbrev pub PutsOn : {T : Type 0} → VaultState → Result T VaultFault → VaultState → Type 0
PutsOn old (Ok _) new = Accepted old new
PutsOn old (Err _) new = Refused old new

pub record Completed (old new : VaultState) : Type 0 where
  pub telling : new.telling ≡ old.telling
  pub sealed : new.sealed ≡ true
  pub failures : new.failures ≡ old.failures

-- Holds if `end` succeeded and the vault is sealed, or `end` failed and the vault refused a piece or the seal.
abbrev pub Completes : {T : Type 0} → VaultState → Result T VaultFault → VaultState → Type 0
Completes old (Ok _) new = Completed old new
Completes old (Err _) new = Refused old new
