use Rattle.std.specs.Prelude.{ℕ, Bool, false, List, [], ◌∷◌, take, Option, Result, Ok, Err, if◌then◌else◌}
use Rattle.std.specs.Io.KnownBytes.{Appends, Keeps}
use Rattle.nor_journal.specs.declared.file_vault.FileVault.{FileVault}
use Rattle.nor_journal.specs.declared.vault.VaultFault.{VaultFault}
use Rattle.nor_journal.specs.Vault.{VaultState}

abbrev pub file_of : {F : Type 0} → FileVault F → F
file_of vault = vault.file

-- A list that stands for the accepted bytes, which contracts don't know. It is empty only if no byte was accepted.
abbrev pub unknown_bytes : (used : Bool) → List ℕ
unknown_bytes used = if used then 0 ∷ [] else []

abbrev pub filed_by : {F : Type 0} → FileVault F → VaultState
filed_by vault = record {
  telling = false;
  bytes = unknown_bytes vault.used;
  sealed = vault.sealed;
  failures = vault.failures;
}

-- Holds if known contents grow by the whole piece or, if `put` failed, only by its first `kept` bytes.
abbrev pub FileTakes : {T : Type 0} → (old new : Option (List ℕ)) → List ℕ → Result T VaultFault → Type 0
FileTakes old new piece (Ok _) = Appends old new piece
FileTakes old new piece (Err fault) = Appends old new (take fault.kept piece)

-- Holds if known contents didn't change and, if the sync succeeded, the contents known after it are durable (`synced`).
abbrev pub SyncsFile : {T E : Type 0} → (old new synced : Option (List ℕ)) → Result T E → Type 0
SyncsFile old new synced (Ok _) = Keeps old new × Keeps new synced
SyncsFile old new synced (Err _) = Keeps old new
