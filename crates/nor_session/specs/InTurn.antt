-- Sessions and restores that follow one another, between which the chip may lose its power or be in files.
use Rattle.std.specs.Prelude.{◌≡◌, ◌⊎◌, ℕ, true, false, List}
use Rattle.nor_model.specs.Chip.{IsChip, IsSame}
use Rattle.nor_model.specs.Power.{PowerLost}
use Rattle.nor_model.specs.Bus.{BusState}
use Rattle.nor_journal.specs.Text.{Content, IsContent, text}
use Rattle.nor_journal.specs.Vault.{VaultState}
use Rattle.nor_request.specs.declared.request.Request.{Request}
use Rattle.nor_request.specs.declared.report.Report.{Report}
use Rattle.nor_probe.specs.Known.{IsModelled}
use Rattle.nor_session.specs.Session.{CanBeUndone}
use Rattle.nor_session.specs.Restore.{NeedsStatusFrom}
use Rattle.nor_session.specs.WrittenOver.{IsWrittenOver}

-- Holds if a session on a modelled bus ended or was stopped after the seal, and left this journal in a faithful vault.
pub record LeavesJournal (request : Request) (image : List ℕ) (old new : BusState) (journal : Content) : Type 0 where
  pub modelled : IsModelled old
  pub is : IsChip old.chip
  pub vault : VaultState
  pub telling : vault.telling ≡ true
  pub undone : CanBeUndone request image old new vault
  pub whole : IsContent journal
  pub same : vault.bytes ≡ text journal

-- Holds if the chip lost its power, and before that was idle or on a bus that wasn't steady. `further` is unchanged.
pub record LosesPower (old new : BusState) : Type 0 where
  pub further : new.further ≡ old.further
  pub known : (old.steady ≡ false) ⊎ (old.chip.busy ≡ 0)
  pub lost : PowerLost old.chip new.chip

abbrev pub MayLosePower : (old new : BusState) → Type 0
MayLosePower old new = IsSame old.chip new.chip ⊎ LosesPower old new

-- Holds if a run can start on the bus `taken` after a run from `old` to `new`. The chip may have lost its power since,
-- or may have been opened from files that held the chip of `old` and were being overwritten with the chip of `new`.
abbrev pub IsTakenUp : (old new taken : BusState) → Type 0
IsTakenUp old new taken = MayLosePower new taken ⊎ IsWrittenOver old.chip new.chip taken.chip

pub record ChangesNothing (journal : Content) (old new : BusState) (report : Report) : Type 0 where
  pub unsent : new.sent ≡ old.sent
  pub touched : report.touched ≡ 0
  pub erases : report.erases ≡ 0
  pub programs : report.programs ≡ 0
  pub spares : ¬ NeedsStatusFrom journal old.chip
