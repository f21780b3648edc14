-- The main promises of a session and of a restore, and which chip a journal can restore.
use Rattle.std.specs.Prelude.{◌≡◌, ◌/◌, ◌&&◌, ℕ, Bool, true, false, not, List, Result, IfErr, IfSome, OnOk}
use Rattle.nor_model.specs.declared.config.Config.{Config}
use Rattle.nor_model.specs.Chip.{Chip, IsSame, is_locked, kept_in}
use Rattle.nor_model.specs.Guard.{is_protected}
use Rattle.nor_model.specs.Bus.{BusState}
use Rattle.nor_driver.specs.OnlyReads.{IsSteadyOrIdle}
use Rattle.nor_driver.specs.Reads.{id_of, unique_of}
use Rattle.nor_journal.specs.Text.{Content}
use Rattle.nor_journal.specs.Vault.{VaultState}
use Rattle.nor_journal.specs.Saved.{Saves, is_saved}
use Rattle.nor_probe.specs.Known.{IsKnown, IsModelled}
use Rattle.nor_apply.specs.Within.{IsWithin}
use Rattle.nor_scan.specs.Saving.{NoneProtected}
use Rattle.nor_request.specs.declared.report.Report.{Report}
use Rattle.nor_request.specs.declared.refusal.Refusal.{Refusal}
use Rattle.nor_request.specs.declared.refusal.Refusal.TheVariants.{Stopped}
use Rattle.nor_scan.specs.SavedScan.{IsJournal}

pub record IsOfType (journal : Content) (config : Config) : Type 0 where
  pub id : journal.id ≡ id_of config
  pub size : journal.size ≡ config.size

-- Holds if the journal is valid (`IsContent`) and saves this chip: its ID, its size, its non-volatile status bits, and
-- the bytes of the saved sectors. If the journal has a unique ID, it is the chip's.
pub record SavesChip (journal : Content) (first : Chip) : Type 0 where
  pub kind : IsOfType journal first.config
  pub unit : IfSome journal.unique (λ unique. unique ≡ unique_of first.config)
  pub bits : first.kept ≡ kept_in journal.status
  pub sectors : Saves first.bytes (is_saved journal) journal

-- True at the addresses at which a chip to be restored may differ from the original chip (`first`). These are the
-- addresses in saved sectors, except the protected ones if the status of the original chip is locked.
abbrev pub open_addresses : Content → Chip → ℕ → Bool
open_addresses journal first a = is_saved journal (a / 4096) && not (is_locked first.kept && is_protected first a)

-- Holds if the journal can restore the original chip (`first`) on this bus. The original chip is known (`IsKnown`), and
-- the journal saves it. The bus's chip differs from the original chip only in bytes and bits that a restore can write,
-- in BUSY and in WEL. On a bus that isn't steady, an operation in progress is limited too (`IsWithin`).
pub record CanRestore (journal : Content) (first : Chip) (state : BusState) : Type 0 where
  pub known : IsKnown state.further first.config
  pub saves : SavesChip journal first
  pub within : IsWithin (open_addresses journal first) first state

-- Holds if these bytes are the encoding of a journal that can restore the original chip (`first`) on this bus.
pub record CanRestoreFrom (bytes : List ℕ) (first : Chip) (state : BusState) : Type 0 where
  pub journal : IsJournal bytes
  pub back : CanRestore journal.content first state

-- The promise of a session at every exit, wherever the session ended or was stopped.
pub record KeepsOriginal (old new : BusState) (vault : VaultState) : Type 0 where
  -- On every bus, if the vault isn't sealed, no modifying command was sent.
  pub unsent : vault.sealed ≡ false → new.sent ≡ old.sent
  -- On a well-behaved bus that is steady or whose chip was idle at the start, if the vault isn't sealed, bytes and
  -- non-volatile status bits are as they were.
  pub same : vault.sealed ≡ false → old.honest ≡ true → IsSteadyOrIdle old → IsSame old.chip new.chip
  -- On a modelled bus, if a faithful vault is sealed, its bytes are a journal that can restore the original chip.
  pub restorable : vault.sealed ≡ true → vault.telling ≡ true → IsModelled old → CanRestoreFrom vault.bytes old.chip new

-- The promise of a restore on a modelled bus, for each chip `first` that the journal can restore at the start.
pub record RestoresOriginal (journal : Content) (old new : BusState) (result : Result Report Refusal) : Type 0 where
  -- At every exit the journal can still restore `first`.
  pub within : (first : Chip) → CanRestore journal first old → CanRestore journal first new
  -- After success the chip has the bytes and the non-volatile status bits of `first`.
  pub back : (first : Chip) → CanRestore journal first old → OnOk result (IsSame first new.chip)
  -- The only possible error is a stop.
  pub only_stops : (first : Chip) → CanRestore journal first old → IfErr result (λ refusal. refusal ≡ Stopped)

-- Holds if no saved sector is protected on the original chip (`first`), or the status of this chip isn't locked. The
-- journal of a session on a modelled bus has this property (`session_can_be_rewritten`).
abbrev pub CanBeRewritten : Content → Chip → Type 0
CanBeRewritten journal first = is_locked first.kept ≡ true → NoneProtected (is_saved journal) first

-- The promise of a rewrite on a modelled bus, for each chip `first` that the journal can restore at the start.
pub record RewritesOriginal (journal : Content) (old new : BusState) (result : Result Report Refusal) : Type 0 where
  pub within : (first : Chip) → CanRestore journal first old → CanRestore journal first new
  pub back : (first : Chip) → CanRestore journal first old → OnOk result (IsSame first new.chip)
  -- The only possible error is a stop, if no saved sector of `first` is protected by a locked status.
  pub only_stops : (first : Chip) → CanRestore journal first old → CanBeRewritten journal first
      → IfErr result (λ refusal. refusal ≡ Stopped)
