-- The promises of a backup, which saves every sector of a chip in a journal.
use Rattle.std.specs.Prelude.{◌≡◌, ◌≤◌, ◌<◌, ◌+◌, ◌/◌, ◌&&◌, ◌⊎◌, ℕ, Bool, true, not, nat_lt, List, [], Option, Some, Result, Err, IfOk, IfErr, OnOk, OnErr, ⊤}
use Rattle.nor_model.specs.Chip.{Chip, IsSame, is_locked}
use Rattle.nor_model.specs.Guard.{is_protected}
use Rattle.nor_model.specs.Bus.{BusState}
use Rattle.nor_driver.specs.OnlyReads.{OnlyReads, Spent, RanOut}
use Rattle.nor_driver.specs.Reads.{unique_of}
use Rattle.nor_journal.specs.Text.{Content}
use Rattle.nor_journal.specs.Saved.{JournalSaves, IsJournalPrefix, is_saved}
use Rattle.nor_journal.specs.Vault.{VaultState, Refused, Accepted, Completed}
use Rattle.nor_probe.specs.declared.table.ChipName.{ChipName}
use Rattle.nor_probe.specs.declared.probes.Found.{Found}
use Rattle.nor_probe.specs.declared.probes.ProbeFault.TheVariants as Probes
use Rattle.nor_probe.specs.Known.{shown_as}
use Rattle.nor_probe.specs.Found.{IsPart, IsWanted, IsConfigOf, HasOtherName}
use Rattle.nor_request.specs.declared.report.Report.{Report}
use Rattle.nor_request.specs.declared.refusal.Refusal.{Refusal}
use Rattle.nor_request.specs.declared.refusal.Refusal.TheVariants.{NoChip, UnknownChip, OtherName, Vault, Stopped, Timeout}
use Rattle.nor_request.specs.Errors.{EndsAtError}
use Rattle.nor_scan.specs.declared.identity.Identity.{Identity}
use Rattle.nor_driver.specs.ReadBack.{bytes_read}
use Rattle.nor_scan.specs.Replied.{IsIdentifiedBy}
use Rattle.nor_scan.specs.Saving.{header_of, header_found}
use Rattle.nor_scan.specs.SavedScan.{IsJournal}
use Rattle.nor_scan.specs.Scanning.{sectors_below}
use Rattle.nor_session.specs.Bounds.{most_reads}
use Rattle.nor_session.specs.Headline.{SavesChip, CanRestoreFrom}

pub record SavesWholeChip (journal : Content) (first : Chip) : Type 0 where
  pub chip : SavesChip journal first
  pub device : journal.unique ≡ Some (unique_of first.config)
  pub every : (s : ℕ) → s < first.config.size / 4096 → is_saved journal s ≡ true

pub record IsBackupOf (bytes : List ℕ) (first : Chip) : Type 0 where
  pub journal : IsJournal bytes
  pub saves : SavesWholeChip journal.content first

-- True at the addresses that a restore from a backup can write on this chip: all addresses or, if the chip's status is
-- locked, those that aren't protected.
abbrev pub writable_addresses : Chip → (a : ℕ) → Bool
writable_addresses first a = nat_lt a first.config.size && not (is_locked first.kept && is_protected first a)

-- Holds for the report of each backup. The shortest identification takes four transactions.
pub record ReportsBackup (named : Option ChipName) (further : Bool) (report : Report) : Type 0 where
  pub part : IsPart further report.found
  pub has_name : IsWanted named report.found.name
  pub touched : report.touched ≡ 0
  pub erases : report.erases ≡ 0
  pub programs : report.programs ≡ 0
  pub least : 4 + report.found.size / 4096 ≤ report.transactions
  pub most : report.transactions ≤ most_reads (report.found.size / 4096)

-- Holds if the bytes are a journal that contains what the bus replied during the backup: ID, unique ID, non-volatile
-- status bits, and the last reply to a read of each sector.
pub record IsBackupOfReplies (further : Bool) (found : Found) (new : BusState) (bytes : List ℕ) : Type 0 where
  pub identity : Identity
  pub same : identity.found ≡ found
  pub replied : IsIdentifiedBy further new.history identity
  pub saves : JournalSaves (header_found identity) (bytes_read new.history) (sectors_below (found.size / 4096)) bytes

-- Holds if a backup may return this error and change the vault from the state `vault` to `vault'`.
abbrev pub BackupReturns : (vault vault' : VaultState) → Refusal → Type 0
BackupReturns vault vault' NoChip = vault' ≡ vault
BackupReturns vault vault' (UnknownChip fault) = vault' ≡ vault
BackupReturns vault vault' OtherName = vault' ≡ vault
BackupReturns vault vault' (Timeout address) = (vault' ≡ vault) × (address ≡ 0)
BackupReturns vault vault' Vault = Refused vault vault'
BackupReturns vault vault' Stopped = Accepted vault vault'
BackupReturns vault vault' _ = ⊥

-- Holds if a backup may return this error on a well-behaved bus. On a punctual bus a stop occurs only if no transaction
-- is left and fewer than `most` were left at the start.
abbrev pub BackupErrors : (most : ℕ) → Option ChipName → (old new : BusState) → Refusal → Type 0
BackupErrors most named old new NoChip = shown_as old.further old.chip.config ≡ Err Probes.NoChip
BackupErrors most named old new (UnknownChip fault) =
    shown_as old.further old.chip.config ≡ Err (Probes.UnknownChip fault)
BackupErrors most named old new OtherName = HasOtherName old.further named old.chip.config
BackupErrors most named old new Stopped = RanOut most old new
BackupErrors most named old new Vault = ⊤
BackupErrors most named old new _ = ⊥

-- Holds if there are no bytes, or if the bytes are a prefix of the only journal that a backup of this chip can write.
abbrev pub HoldsBackupBegun : Chip → (bytes : List ℕ) → Type 0
HoldsBackupBegun chip bytes = (bytes ≡ [])
    ⊎ IsJournalPrefix (header_of chip) chip.bytes (sectors_below (chip.config.size / 4096)) bytes

pub record BackupAlways (named : Option ChipName) (old new : BusState) (vault vault' : VaultState)
    (result : Result Report Refusal) : Type 0 where
  pub only_reads : OnlyReads (most_reads 4096) old new
  pub sealed : OnOk result (Completed vault vault')
  pub answers : IfErr result (BackupReturns vault vault')
  pub replied : IfOk result (λ report. vault'.telling ≡ true
      → IsBackupOfReplies old.further report.found new vault'.bytes)
  pub reported : IfOk result (ReportsBackup named old.further)
  pub polled_ready : OnOk result (new.polled_ready ≡ true)
  pub last_transaction : IfErr result (λ refusal. EndsAtError refusal new.history)

pub record BackupHonest (named : Option ChipName) (old new : BusState) (result : Result Report Refusal) : Type 0 where
  pub errors : IfErr result (BackupErrors (most_reads 4096) named old new)
  pub same : OnOk result (IsSame old.chip new.chip)
  pub counted : IfOk result (λ report. Spent report.transactions old new)

pub record BackupModelled (named : Option ChipName) (old new : BusState) (vault' : VaultState)
    (result : Result Report Refusal) : Type 0 where
  pub errors : IfErr result (BackupErrors (most_reads (old.chip.config.size / 4096)) named old new)
  pub config : IfOk result (λ report. IsConfigOf old.further old.chip.config report.found)
  pub saves : OnOk result (vault'.telling ≡ true → IsBackupOf vault'.bytes old.chip)
  pub restorable : OnOk result (vault'.telling ≡ true → CanRestoreFrom vault'.bytes old.chip new)
  pub cut : vault'.telling ≡ true → OnErr result (HoldsBackupBegun old.chip vault'.bytes)
