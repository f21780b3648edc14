-- The main promises of the calls over serprog.
use Rattle.std.specs.Prelude.{◌≡◌, ◌≤◌, ◌<◌, ◌*◌, ◌/◌, ℕ, Bool, true, false, List, length, Option, Result, Err, IfErr}
use Rattle.std.specs.Prelude.{OnOk, ⊤}
use Rattle.nor_model.specs.Chip.{Chip, IsSame, kept_in}
use Rattle.nor_model.specs.Sent.{Sent}
use Rattle.nor_model.specs.Bus.{BusState}
use Rattle.nor_driver.specs.StatusWrites.{with_code}
use Rattle.nor_journal.specs.Text.{Content}
use Rattle.nor_journal.specs.Vault.{VaultState, CountsRefusal}
use Rattle.nor_probe.specs.declared.probes.ProbeFault.TheVariants as Probes
use Rattle.nor_probe.specs.declared.table.ChipName.{ChipName}
use Rattle.nor_probe.specs.Found.{HasOtherName}
use Rattle.nor_probe.specs.Known.{IsGenuine, shown_as}
use Rattle.nor_request.specs.declared.request.Request.{Request}
use Rattle.nor_request.specs.declared.report.Report.{Report}
use Rattle.nor_request.specs.declared.refusal.Refusal.{Refusal}
use Rattle.nor_request.specs.declared.refusal.Refusal.TheVariants.{NoChip, UnknownChip, OtherName, Vault, Stopped, Timeout, Mismatch}
use Rattle.nor_request.specs.Refusal.{refusal_number}
use Rattle.nor_request.specs.Request.{wanted, IsWantedCode}
use Rattle.nor_scan.specs.SavedScan.{IsJournal}
use Rattle.nor_scan.specs.Verdict.{IsAccepted, IsVerdict}
use Rattle.nor_session.specs.Bounds.{most_of, most_reads}
use Rattle.nor_session.specs.Made.{IsTargetChip}
use Rattle.nor_session.specs.Backup.{IsBackupOf}
use Rattle.nor_session.specs.Headline.{CanBeRewritten, CanRestore}
use Rattle.nor_session.specs.Restore.{IsCheckedFirst, IsRestoreVerdict, Choice, differing, every_saved, restored}
use Rattle.nor_serprog.specs.Device.{PortState}

-- Holds if the port is well-behaved, and the chip of its programmer is genuine on a bus with or without further types
-- (`further`).
pub record ReachesGenuine (further : Bool) (port : PortState) : Type 0 where
  pub honest : port.honest ≡ true
  pub genuine : IsGenuine further port.device.chip.config

-- Holds if the journal can restore the original chip `first` over every bus whose chip is `chip`, and that has further
-- types if and only if `further` is true.
abbrev pub CanRestoreChip : (further : Bool) → Content → (first chip : Chip) → Type 0
CanRestoreChip further journal first chip = (state : BusState) → state.chip ≡ chip → state.further ≡ further
    → CanRestore journal first state

pub record CanRestoreChipFrom (further : Bool) (bytes : List ℕ) (first chip : Chip) : Type 0 where
  pub journal : IsJournal bytes
  pub back : CanRestoreChip further journal.content first chip

-- Holds if fewer calls of the port were left than this number of transactions takes: three for each.
abbrev pub HadFewCalls : (transactions : ℕ) → PortState → Type 0
HadFewCalls transactions port = port.left < 3 * transactions

-- The state of the port, but with no call left, so that `HadFewCalls` holds for any positive number of transactions.
-- Layers that aren't punctual need this state: they may stop at any transaction, even if the port has calls left.
abbrev pub uncounted : PortState → PortState
uncounted port = record port { left = 0 }

-- Holds if the session made the chip what `request` asks for, including its non-volatile status bits.
pub record IsTargetOf (request : Request) (image : List ℕ) (old new : Chip) : Type 0 where
  pub made : IsTargetChip (wanted request image old) old new
  pub code : ℕ
  pub is_wanted : IsWantedCode request.what old code
  pub kept : new.kept ≡ with_code code old.kept

-- Holds if an error of a session on a well-behaved port to a genuine chip is one of three: the verdict on the request,
-- error 11 because the vault failed, or error 12 because the port had too few calls left.
abbrev pub SessionFails : (further : Bool) → Request → (image : List ℕ) → PortState → (vault vault' : VaultState)
    → Refusal → Type 0
SessionFails further request image port vault vault' Vault = CountsRefusal vault vault'
SessionFails further request image port vault vault' Stopped =
    HadFewCalls (most_of (port.device.chip.config.size / 4096)) port
SessionFails further request image port vault vault' refusal = IsVerdict further request image port.device.chip refusal

-- Holds if a session kept its promises for the original chip, which the fields state. `sent` and `sent'` list the
-- transactions that may modify the chip, before the session and until its exit.
pub record KeepsOriginalChip (further : Bool) (old new : PortState) (sent sent' : Sent)
    (vault : VaultState) : Type 0 where
  -- on every port: if the vault isn't sealed, no modifying command was sent
  pub unsent : vault.sealed ≡ false → sent' ≡ sent
  -- on a well-behaved port: if the vault isn't sealed, a chip that was idle at the start is as it was
  pub same : vault.sealed ≡ false → old.honest ≡ true → old.device.chip.busy ≡ 0
      → IsSame old.device.chip new.device.chip
  -- on a well-behaved port to a genuine chip: the journal in a sealed faithful vault can restore the original chip
  pub restorable : vault.sealed ≡ true → vault.telling ≡ true → ReachesGenuine further old
      → CanRestoreChipFrom further vault.bytes old.device.chip new.device.chip

-- States the promises for the result of a session, on a well-behaved port to a genuine chip.
pub record SessionResults (further : Bool) (request : Request) (image : List ℕ) (old new : PortState)
    (vault vault' : VaultState) (result : Result Report Refusal) : Type 0 where
  pub done : OnOk result (IsTargetOf request image old.device.chip new.device.chip)
  pub sealed : OnOk result (vault'.sealed ≡ true)
  pub errors : IfErr result (SessionFails further request image old vault vault')
  pub unsealed : IfErr result (λ refusal. refusal_number refusal ≤ 11 → vault'.sealed ≡ false)
  pub accepted : vault'.sealed ≡ true → IsAccepted further request image old.device.chip

-- Holds if the error is 12, 13 or 14, or no modifying command was sent.
abbrev pub RefusesUnsent : (sent sent' : Sent) → Refusal → Type 0
RefusesUnsent sent sent' Stopped = ⊤
RefusesUnsent sent sent' (Timeout address) = ⊤
RefusesUnsent sent sent' (Mismatch address) = ⊤
RefusesUnsent sent sent' refusal = sent' ≡ sent

-- Holds if an error of a restore with this choice of sectors, on a well-behaved port to a genuine chip, is the verdict
-- on the journal, or error 12 because the port had too few calls left.
abbrev pub FailsBy : (further : Bool) → Choice → Content → PortState → Refusal → Type 0
FailsBy further choice journal port Stopped = HadFewCalls (most_of (length journal.saved)) port
FailsBy further choice journal port refusal = IsRestoreVerdict further choice journal port.device.chip refusal

abbrev pub RestoreFails : (further : Bool) → Content → PortState → Refusal → Type 0
RestoreFails further journal port refusal = FailsBy further differing journal port refusal

-- States the promises for the result of a restore, on a well-behaved port to a genuine chip. The fields `within`,
-- `back` and `only_stops` are about each chip `first` that the journal can restore at the start.
pub record RestoresOriginalChip (further : Bool) (journal : Content) (old new : PortState)
    (result : Result Report Refusal) : Type 0 where
  -- at every exit, even after a failure of the port, the journal can still restore `first`
  pub within : (first : Chip) → CanRestoreChip further journal first old.device.chip
      → CanRestoreChip further journal first new.device.chip
  pub back : (first : Chip) → CanRestoreChip further journal first old.device.chip
      → OnOk result (IsSame first new.device.chip)
  pub idle : OnOk result (new.device.chip.busy ≡ 0)
  -- if the journal can restore `first`, the only possible error is 12, because the port had too few calls left
  pub only_stops : (first : Chip) → CanRestoreChip further journal first old.device.chip
      → IfErr result (λ refusal. (refusal ≡ Stopped) × HadFewCalls (most_of (length journal.saved)) old)
  pub made : OnOk result (IsTargetChip (restored journal old.device.chip.bytes) old.device.chip new.device.chip)
  pub kept : OnOk result (new.device.chip.kept ≡ kept_in journal.status)
  pub errors : IfErr result (RestoreFails further journal old)
  pub same : IfErr result (λ refusal. IsCheckedFirst refusal → IsSame old.device.chip new.device.chip)

-- States the promises for the result of a rewrite, on a well-behaved port to a genuine chip. The fields `within`,
-- `back` and `only_stops` are about each chip `first` that the journal can restore at the start.
pub record RewritesOriginalChip (further : Bool) (journal : Content) (old new : PortState)
    (result : Result Report Refusal) : Type 0 where
  pub within : (first : Chip) → CanRestoreChip further journal first old.device.chip
      → CanRestoreChip further journal first new.device.chip
  pub back : (first : Chip) → CanRestoreChip further journal first old.device.chip
      → OnOk result (IsSame first new.device.chip)
  pub idle : OnOk result (new.device.chip.busy ≡ 0)
  -- if no saved sector of `first` is protected by a locked status, the only possible error is 12
  pub only_stops : (first : Chip) → CanRestoreChip further journal first old.device.chip → CanBeRewritten journal first
      → IfErr result (λ refusal. (refusal ≡ Stopped) × HadFewCalls (most_of (length journal.saved)) old)
  pub made : OnOk result (IsTargetChip (restored journal old.device.chip.bytes) old.device.chip new.device.chip)
  pub kept : OnOk result (new.device.chip.kept ≡ kept_in journal.status)
  pub errors : IfErr result (FailsBy further every_saved journal old)
  pub same : IfErr result (λ refusal. IsCheckedFirst refusal → IsSame old.device.chip new.device.chip)

-- Holds if the error of a backup is 1, 2 or 3 and the chip's configuration implies it, if the error is 11, or if it is
-- 12 and the port had too few calls left.
abbrev pub BackupFails : (further : Bool) → Option ChipName → PortState → Refusal → Type 0
BackupFails further named port NoChip = shown_as further port.device.chip.config ≡ Err Probes.NoChip
BackupFails further named port (UnknownChip fault) =
    shown_as further port.device.chip.config ≡ Err (Probes.UnknownChip fault)
BackupFails further named port OtherName = HasOtherName further named port.device.chip.config
BackupFails further named port Stopped = HadFewCalls (most_reads (port.device.chip.config.size / 4096)) port
BackupFails further named port Vault = ⊤
BackupFails further named port _ = ⊥

-- States the promises for the result of a backup, on a well-behaved port to a genuine chip.
pub record SavesChipOver (further : Bool) (named : Option ChipName) (old new : PortState) (vault : VaultState)
    (result : Result Report Refusal) : Type 0 where
  pub errors : IfErr result (BackupFails further named old)
  pub same : OnOk result (IsSame old.device.chip new.device.chip)
  pub saves : OnOk result (vault.telling ≡ true → IsBackupOf vault.bytes old.device.chip)
  pub restorable : OnOk result (vault.telling ≡ true
      → CanRestoreChipFrom further vault.bytes old.device.chip new.device.chip)
