-- The states that the session of a rehearsal and the restores after it leave.
use Rattle.std.specs.Prelude.{◌≡◌, ◌≤◌, ◌<◌, ◌+◌, ◌*◌, ◌/◌, ◌++◌, ℕ, Bool, true, false, List, Result, IfOk, IfErr, OnOk, OnErr, length}
use Rattle.nor_model.specs.Chip.{Chip, IsChip, IsSame, is_locked}
use Rattle.nor_model.specs.History.{EndsStopped}
use Rattle.nor_model.specs.Bus.{BusState, SameNature}
use Rattle.nor_driver.specs.OnlyReads.{IsSteadyOrIdle}
use Rattle.nor_driver.specs.StatusWrites.{with_code}
use Rattle.nor_journal.specs.Text.{Content}
use Rattle.nor_journal.specs.Vault.{VaultState}
use Rattle.nor_journal.specs.Saved.{is_saved, JournalSaves}
use Rattle.nor_probe.specs.Known.{IsKnown, IsModelled}
use Rattle.nor_geometry.specs.Counts.{sector_count}
use Rattle.nor_plan.specs.Content.{is_touched}
use Rattle.nor_apply.specs.Within.{IsWithin, addresses_of}
use Rattle.nor_request.specs.declared.request.Request.{Request}
use Rattle.nor_request.specs.declared.request.What.{What}
use Rattle.nor_request.specs.declared.refusal.Refusal.{Refusal}
use Rattle.nor_request.specs.Request.{wanted, IsWantedCode}
use Rattle.nor_request.specs.Errors.{EndsAtError}
use Rattle.nor_scan.specs.Saving.{header_of, NoneProtected}
use Rattle.nor_scan.specs.SavedScan.{IsJournal}
use Rattle.nor_session.specs.Bounds.{most_of}
use Rattle.nor_scan.specs.Verdict.{IsAccepted}
use Rattle.nor_session.specs.Session.{SessionReturns, SavesSector, NamesSector, NamesAddress, IsSavedCode, IsWrittenCode, most_status_writes, SendsSaved, ProgramsOnly, ProgramsTargets, WritesStatusAtMost}
use Rattle.nor_session.specs.Headline.{CanRestore}
use Rattle.nor_session.specs.Restore.{IsRestoreRefusal, IsSavedByte}
use Rattle.nor_session.specs.Rehearsal.{CanEnd, SealFits, AreRestores, FitsLastStop, LeavesRefused, IsNoBusError, RehearsalErrors, allowances_of, AllowsStops}

-- Holds if the bytes `text` can restore the known chip `first` on this bus. These bytes are a journal of `first` that
-- saves exactly the sectors in `saved`; if the status of `first` is locked, none of these sectors is protected. The
-- bus's chip differs from `first` only as `IsWithin` allows.
pub record CanUndo (saved : ℕ → Bool) (first : Chip) (text : List ℕ) (state : BusState) : Type 0 where
  pub is : IsChip first
  pub known : IsKnown state.further first.config
  pub journal : JournalSaves (header_of first) first.bytes saved text
  pub inside : (s : ℕ) → saved s ≡ true → s < first.config.size / 4096
  pub free : is_locked first.kept ≡ true → NoneProtected saved first
  pub within : IsWithin (addresses_of saved) first state

-- Holds at every exit of the session in a rehearsal. On a modelled bus, the bytes of a sealed vault can restore the
-- original chip, and only touched sectors were erased.
pub record LeavesSession (request : Request) (image : List ℕ) (old new : BusState) (vault : VaultState) : Type 0 where
  pub nature : SameNature old new
  pub same : IsModelled old → IsSteadyOrIdle old → vault.sealed ≡ false → IsSame old.chip new.chip
  pub back : IsModelled old → vault.sealed ≡ true
      → CanUndo (is_touched old.chip.bytes (wanted request image old.chip)) old.chip vault.bytes new
  pub accepted : IsModelled old → vault.sealed ≡ true → IsAccepted old.further request image old.chip
  pub wears : IsModelled old → (s : ℕ) → is_touched old.chip.bytes (wanted request image old.chip) s ≡ false
      → new.worn s ≡ old.worn s
  pub latch : IsModelled old → vault.sealed ≡ false → new.chip.latch ≡ true → old.chip.latch ≡ true
  pub unsent : vault.sealed ≡ false → new.sent ≡ old.sent
  pub sends : vault.sealed ≡ true → (journal : IsJournal vault.bytes)
      × SendsSaved (IsWrittenCode request.what journal.content) 1 journal.content old new
  pub programs : vault.sealed ≡ true → ProgramsTargets request image old new vault
  pub writes : WritesStatusAtMost (most_status_writes request.what request.unlock) old new

pub record HasWantedBits (what : What) (old new : Chip) : Type 0 where
  pub code : ℕ
  pub is_wanted : IsWantedCode what old code
  pub kept : new.kept ≡ with_code code old.kept

-- Holds if a session with an allowance of `allowance` transactions succeeded or, if `ended` is false, was stopped.
pub record RunsSession (request : Request) (image : List ℕ) (allowance : ℕ) (old new : BusState) (vault : VaultState)
    (ended : Bool) : Type 0 where
  pub seals : ended ≡ true → vault.sealed ≡ true
  pub can : IsModelled old → old.punctual ≡ true → ended ≡ true → CanEnd old.further request image allowance old.chip
  pub bytes : IsModelled old → ended ≡ true → (a : ℕ) → new.chip.bytes a ≡ wanted request image old.chip a
  pub bits : IsModelled old → ended ≡ true → HasWantedBits request.what old.chip new.chip
  pub latch : IsModelled old → ended ≡ true → new.chip.latch ≡ true → old.chip.latch ≡ true
  pub none_left : old.honest ≡ true → old.punctual ≡ true → ended ≡ false → new.left ≡ 0
  pub below : IsModelled old → old.punctual ≡ true → ended ≡ false
      → allowance < most_of (old.chip.config.size / 4096)
  pub seal : IsModelled old → old.punctual ≡ true → SealFits old.further request allowance old.chip vault.sealed

-- Holds if the session may end the rehearsal with this error: no stop or timeout on a well-behaved, punctual bus.
pub record RefusesSession (request : Request) (image : List ℕ) (old new : BusState) (before after : VaultState)
    (refusal : Refusal) : Type 0 where
  pub answers : SessionReturns before after refusal
  pub names : NamesAddress after refusal
  pub fails : old.honest ≡ true → old.punctual ≡ true → IsNoBusError refusal
  pub last_transaction : EndsAtError refusal new.history
  pub errors : IsModelled old → old.punctual ≡ true
      → RehearsalErrors old.further request image old.chip before after refusal
  pub leaves : IsModelled old → old.punctual ≡ true → LeavesRefused old new after

-- Holds at every exit of at most `restores` restores. On a modelled bus the journal can still restore each chip that it
-- could restore before, and only saved sectors were erased.
pub record LeavesRestores (journal : Content) (restores : ℕ) (old new : BusState) : Type 0 where
  pub nature : SameNature old new
  pub modelled : IsModelled old → IsModelled new
  pub can : IsModelled old → (first : Chip) → CanRestore journal first old → CanRestore journal first new
  pub worn : IsModelled old → (s : ℕ) → is_saved journal s ≡ false → new.worn s ≡ old.worn s
  pub sends : SendsSaved (IsSavedCode journal) restores journal old new
  pub programs : ProgramsOnly (IsSavedByte journal) old new
  pub writes : WritesStatusAtMost (2 * restores) old new

-- Holds if a restore with an allowance of `allowance` transactions succeeded or, if `ended` is false, was stopped.
-- After success on a modelled bus, a chip that the journal could restore is restored.
pub record RunsRestore (journal : Content) (allowance : ℕ) (old new : BusState) (ended : Bool) : Type 0 where
  pub back : IsModelled old → ended ≡ true → (first : Chip) → CanRestore journal first old → IsSame first new.chip
  pub latch : IsModelled old → ended ≡ true → new.chip.latch ≡ true → old.chip.latch ≡ true
  pub enough : IsModelled old → old.punctual ≡ true → ended ≡ true
      → new.left + (4 + length journal.saved) ≤ allowance
  pub none_left : old.honest ≡ true → old.punctual ≡ true → ended ≡ false → new.left ≡ 0
  pub below : old.honest ≡ true → old.punctual ≡ true → ended ≡ false
      → allowance < most_of (length journal.saved)
  pub last_transaction : ended ≡ false → EndsStopped new.history

-- Holds if `restores` restores were run in turn, each with its own allowance, and the last one succeeded. On a
-- modelled bus, a chip that the journal could restore is restored.
pub record RunsRestores (journal : Content) (stops : List ℕ) (old new : BusState) (restores : ℕ) : Type 0 where
  pub some : 1 ≤ restores
  pub most : restores ≤ length stops + 1
  pub allowed : new.allowances ≡ allowances_of stops restores ++ old.allowances
  pub latch : IsModelled old → restores ≡ 1 → new.chip.latch ≡ true → old.chip.latch ≡ true
  pub are : IsModelled old → old.punctual ≡ true → AreRestores (length journal.saved) stops restores
  pub last : IsModelled old → old.punctual ≡ true → FitsLastStop (length journal.saved) stops new.left restores
  pub back : IsModelled old → (first : Chip) → CanRestore journal first old → IsSame first new.chip

-- Holds if one of the restores may end the rehearsal with this error. On a modelled, punctual bus no such error is
-- possible if the journal could restore some original chip before the restores (`CanRestore`).
pub record StopsRestores (journal : Content) (old new : BusState) (refusal : Refusal) : Type 0 where
  pub answers : IsRestoreRefusal refusal
  pub last_transaction : EndsAtError refusal new.history
  pub names : NamesSector (λ sector. is_saved journal sector ≡ true) refusal
  pub fails : length journal.saved ≤ 4096 → old.honest ≡ true → old.punctual ≡ true → IsNoBusError refusal
  pub never : IsModelled old → old.punctual ≡ true → (first : Chip) → CanRestore journal first old → ⊥

-- Holds if `restores` restores from the bytes `text` were run in turn, each with its own allowance, and the last one
-- succeeded. On a modelled bus, a chip that these bytes could restore is restored.
pub record Undoes (text : List ℕ) (stops : List ℕ) (old new : BusState) (restores : ℕ) : Type 0 where
  pub some : 1 ≤ restores
  pub most : restores ≤ length stops + 1
  pub allowed : new.allowances ≡ allowances_of stops restores ++ old.allowances
  pub latch : IsModelled old → restores ≡ 1 → new.chip.latch ≡ true → old.chip.latch ≡ true
  pub same : IsModelled old → (saved : ℕ → Bool) (first : Chip) → CanUndo saved first text old → IsSame first new.chip
  pub are : IsModelled old → old.punctual ≡ true → (saved : ℕ → Bool) (first : Chip) → CanUndo saved first text old
      → AreRestores (sector_count saved) stops restores
  pub last : IsModelled old → old.punctual ≡ true → (saved : ℕ → Bool) (first : Chip) → CanUndo saved first text old
      → FitsLastStop (sector_count saved) stops new.left restores

abbrev pub WearsSaved : List ℕ → (old new : BusState) → Type 0
WearsSaved text old new = IsModelled old → (saved : ℕ → Bool) (first : Chip) → CanUndo saved first text old
    → (s : ℕ) → saved s ≡ false → new.worn s ≡ old.worn s

abbrev pub SendsFromJournal : List ℕ → (restores : ℕ) → (old new : BusState) → Type 0
SendsFromJournal text restores old new =
    (journal : IsJournal text) → SendsSaved (IsSavedCode journal.content) restores journal.content old new

abbrev pub ProgramsFromJournal : List ℕ → (old new : BusState) → Type 0
ProgramsFromJournal text old new = (journal : IsJournal text) → ProgramsOnly (IsSavedByte journal.content) old new

-- Holds if restores from the bytes `text` may end the rehearsal with this error. No such error is possible on a
-- modelled, punctual bus if the bytes can restore a chip.
pub record RefusesUndo (text : List ℕ) (old new : BusState) (refusal : Refusal) : Type 0 where
  pub answers : IsJournal text → IsRestoreRefusal refusal
  pub last_transaction : EndsAtError refusal new.history
  pub names : NamesSector (λ sector. SavesSector sector text) refusal
  pub fails : old.honest ≡ true → old.punctual ≡ true → IsNoBusError refusal
  pub never : IsModelled old → old.punctual ≡ true → (saved : ℕ → Bool) (first : Chip)
      → CanUndo saved first text old → ⊥

pub record LeavesUndo (text stops : List ℕ) (old new : BusState) (result : Result ℕ Refusal) : Type 0 where
  pub nature : SameNature old new
  pub wears : WearsSaved text old new
  pub sends : SendsFromJournal text (length stops + 1) old new
  pub programs : ProgramsFromJournal text old new
  pub writes : WritesStatusAtMost (2 * (length stops + 1)) old new
  pub undoes : IfOk result (Undoes text stops old new)
  pub polled_ready : OnOk result (new.polled_ready ≡ true)
  pub refuses : IfErr result (RefusesUndo text old new)
  pub tried : OnErr result (AllowsStops stops 0 (length stops + 1) old new)
