use Rattle.std.specs.Prelude.{◌≡◌, ℕ, ◌≤◌, Bool, true, List, Result, Ok, Err}
use Rattle.std.specs.Borrow.{MutBor}
use Rattle.sha2.specs.Hashers.{Holds256}
use Rattle.nor_journal.specs.declared.vault.VaultFault.{VaultFault}
use Rattle.nor_journal.specs.declared.writer.Attempt.{Attempt}
use Rattle.nor_journal.specs.declared.writer.Attempt.TheVariants as attempt
use Rattle.nor_journal.specs.declared.writer.Writer.{Writer}
use Rattle.nor_journal.specs.Vault.{VaultState}
use Rattle.nor_journal.specs.Text.{Content, IsContent, SameHeader, next_number, front}
use Rattle.nor_journal.specs.Saved.{Saves}

abbrev pub vault_of : {V : Type 0} → Writer V → MutBor V
vault_of writer = writer.vault

abbrev pub vault_seen : {V : Type 0} → (V → VaultState) → Writer V → VaultState
vault_seen state writer = state (vault_of writer).now

-- Holds if the writer's digest was updated with exactly `bytes`, and the vault, if faithful, holds exactly these.
pub record HasPut {V : Type 0} (state : V → VaultState) (writer : Writer V) (bytes : List ℕ) : Type 0 where
  pub hashed : Holds256 writer.hasher bytes
  pub held : (vault_seen state writer).telling ≡ true → (vault_seen state writer).bytes ≡ bytes

-- Holds if the content is valid, and exactly its header and its records were written (`HasPut`).
pub record HasWritten {V : Type 0} (state : V → VaultState) (writer : Writer V) (content : Content) : Type 0 where
  pub is : IsContent content
  pub put : HasPut state writer (front content)

-- Holds if exactly the header of `head` and records of the sectors in `saved`, all below `n`, were written. The bytes
-- of these records are those of a chip with the contents `old`.
pub record HasPutSectors {V : Type 0} (state : V → VaultState) (writer : Writer V) (head : Content)
    (old : ℕ → ℕ) (saved : ℕ → Bool) (n : ℕ) : Type 0 where
  pub content : Content
  pub written : HasWritten state writer content
  pub same : SameHeader head content
  pub saves : Saves old saved content
  pub next : next_number content ≤ n

abbrev pub lent_by : {V : Type 0} → Attempt V → MutBor V
lent_by (attempt.Accepted writer) = vault_of writer
lent_by (attempt.Refused vault fault) = vault

abbrev pub outcome_of : {V : Type 0} → Attempt V → Result (Writer V) VaultFault
outcome_of (attempt.Accepted writer) = Ok writer
outcome_of (attempt.Refused vault fault) = Err fault
