-- The results of the jobs that change a chip, and of rehearsals.
use Rattle.std.specs.Prelude.{◌≡◌, ◌≤◌, ◌/◌, ◌⊎◌, ℕ, Bool, List, Option, None, Some, Result, false, true, drop, length}
use Rattle.std.specs.Prelude.{IsOk, MatchResult, OnOk, ⊤}
use Rattle.nor_model.specs.Bus.{BusState}
use Rattle.nor_model.specs.Chip.{Chip, IsSame}
use Rattle.nor_driver.specs.OnlyReads.{IsSteadyOrIdle, OnlyReads}
use Rattle.nor_journal.specs.Saved.{JournalSaves}
use Rattle.nor_journal.specs.Text.{Content as Journal, IsContent, text}
use Rattle.nor_journal.specs.Vault.{IsFresh, VaultState}
use Rattle.nor_geometry.specs.Counts.{sector_count}
use Rattle.nor_request.specs.Request.{wanted}
use Rattle.nor_plan.specs.Content.{is_touched}
use Rattle.nor_probe.specs.Found.{ProbeErrors, most_probe}
use Rattle.nor_probe.specs.declared.probes.ProbeFault.{ProbeFault}
use Rattle.nor_probe.specs.declared.table.ChipName.{ChipName}
use Rattle.nor_request.specs.Refusal.{refusal_number, of_probe}
use Rattle.nor_scan.specs.Saving.{header_of}
use Rattle.nor_request.specs.declared.request.Request.{Request}
use Rattle.nor_request.specs.declared.refusal.Refusal.{Refusal}
use Rattle.nor_probe.specs.Known.{IsModelled}
use Rattle.nor_session.specs.Bounds.{most_of}
use Rattle.nor_scan.specs.Verdict.{IsAccepted, IsNamed}
use Rattle.nor_session.specs.Session.{CanBeUndone, IsDone, SessionErrors}
use Rattle.nor_session.specs.Headline.{CanRestore}
use Rattle.nor_session.specs.Restore.{IsRestored, RestoreErrors, IsCheckedFirst}
use Rattle.nor_session.specs.WrittenOver.{IsWrittenOver}
use Rattle.nor_session.specs.Rehearsal.{AreRestores, CanEnd, IsRehearsal, RehearsalErrors, SealFits, first_allowance}
use Rattle.nor_session.specs.declared.rehearsals.Rehearsal.{Rehearsal}
use Rattle.nor_args.specs.declared.job.JournalUse.{JournalUse}
use Rattle.nor_args.specs.declared.job.JournalUse.TheVariants as uses
use Rattle.nor_files.specs.Files.{FilesState, View, is_lawful}
use Rattle.nor_console.specs.Stored.{IsKeptFile, IsMissing}
use Rattle.nor_console.specs.Tasks.{journal_of}
use Rattle.nor_console.specs.declared.answers.Answer.{Answer}
use Rattle.nor_console.specs.declared.answers.Answer.TheVariants as answer

abbrev pub ReportsChange : Request → List ℕ → (old new : BusState) → Answer → Type 0
ReportsChange request image old new (answer.Done report) = IsDone request image old new report
ReportsChange request image old new _ = ⊥

-- Holds if a session on a modelled bus may return this error. Errors 1 to 11 leave the chip as it was, and errors 1 to
-- 8 also leave the vault as it was.
pub record FailsSession (request : Request) (image : List ℕ) (old new : BusState)
    (vault vault' : VaultState) (refusal : Refusal) : Type 0 where
  pub refuses : SessionErrors request image old new vault vault' refusal
  pub same : refusal_number refusal ≤ 11 → IsSame old.chip new.chip
  pub unused : refusal_number refusal ≤ 8 → vault' ≡ vault

-- If the vault isn't sealed: holds if the chip that a later run opens (`opened`) is the original chip. If it is sealed:
-- holds if the journal of a faithful (`telling`) vault can restore the original chip from `opened`.
pub record IsSafe (old opened : BusState) (vault : VaultState) : Type 0 where
  pub same : vault.sealed ≡ false → IsSame old.chip opened.chip
  pub back : vault.sealed ≡ true → vault.telling ≡ true
      → (journal : Journal) → IsContent journal → vault.bytes ≡ text journal → CanRestore journal old.chip opened

-- Holds if a session may have this outcome. The chip is as before unless the vault is sealed. With the journal of a
-- sealed faithful vault, the session can be undone.
pub record HasKeptChange (request : Request) (image : List ℕ) (old new : BusState) (vault vault' : VaultState)
    (outcome : Result Answer Refusal) : Type 0 where
  pub returned : MatchResult outcome (ReportsChange request image old new)
      (FailsSession request image old new vault vault')
  pub sealed : IsOk outcome → vault'.sealed ≡ true
  pub same : vault'.sealed ≡ false → IsSame old.chip new.chip
  pub undo : vault'.sealed ≡ true → CanBeUndone request image old new vault'
  pub over : (opened : BusState) → IsWrittenOver old.chip new.chip opened.chip → opened.further ≡ old.further
      → IsSafe old opened vault'

-- Holds if a rehearsal of this request on `chip` may have this result, on a bus with or without further types. `vault`
-- is the vault after the rehearsal.
pub record IsRehearsed (further : Bool) (request : Request) (image stops : List ℕ) (chip : Chip)
    (vault : VaultState) (rehearsal : Rehearsal) : Type 0 where
  pub counts : IsRehearsal (length stops) vault rehearsal
  pub ended : most_of (chip.config.size / 4096) ≤ first_allowance stops → rehearsal.ended ≡ true
  pub enough : rehearsal.ended ≡ true → CanEnd further request image (first_allowance stops) chip
  pub fits : SealFits further request (first_allowance stops) chip rehearsal.sealed
  pub accepted : rehearsal.sealed ≡ true → IsAccepted further request image chip
  pub saves : rehearsal.sealed ≡ true
      → JournalSaves (header_of chip) chip.bytes (is_touched chip.bytes (wanted request image chip)) vault.bytes
  pub restores : rehearsal.sealed ≡ true
      → AreRestores (sector_count (is_touched chip.bytes (wanted request image chip))) (drop 1 stops) rehearsal.restores

abbrev pub ReportsRehearsal : (further : Bool) → Request → (image stops : List ℕ) → Chip → VaultState → Answer
    → Type 0
ReportsRehearsal further request image stops chip vault (answer.Rehearsed rehearsal) =
    IsRehearsed further request image stops chip vault rehearsal
ReportsRehearsal further request image stops chip vault _ = ⊥

pub record HasRehearsed (request : Request) (image stops : List ℕ) (old new : BusState) (vault vault' : VaultState)
    (outcome : Result Answer Refusal) : Type 0 where
  pub same : IsSame old.chip new.chip
  pub returned : MatchResult outcome (ReportsRehearsal old.further request image stops old.chip vault')
      (RehearsalErrors old.further request image old.chip vault vault')

-- For a journal in a file: holds if `vault'` is faithful (`telling`), and this file has its bytes, which are durable
-- once it is sealed (`IsKeptFile`), or if the files don't obey their contract. For a rehearsal: holds if `vault` is
-- faithful.
abbrev pub IsKeptIn : JournalUse → (vault vault' : VaultState) → FilesState → Type 0
IsKeptIn (uses.Journal file) vault vault' files =
    is_lawful files.view ≡ true → IsKeptFile file.now vault' files
IsKeptIn (uses.Rehearse stops) vault vault' files = vault.telling ≡ true

abbrev pub HasDone : Request → List ℕ → JournalUse → (old new : BusState) → (vault vault' : VaultState)
    → Result Answer Refusal → Type 0
HasDone request image (uses.Journal file) old new vault vault' outcome =
    HasKeptChange request image old new vault vault' outcome
HasDone request image (uses.Rehearse stops) old new vault vault' outcome =
    HasRehearsed request image stops.items old new vault vault' outcome

-- Holds if a change with its journal in a new file, or a rehearsal with its journal in memory, may have this outcome.
pub record HasMadeChange (request : Request) (image : List ℕ) (kept : JournalUse) (old new : BusState)
    (before : View) (after : FilesState) (outcome : Result Answer Refusal) : Type 0 where
  pub missing : IsMissing (journal_of kept) before
  pub vault : VaultState
  pub vault' : VaultState
  pub fresh : IsFresh vault
  pub kept_in : IsKeptIn kept vault vault' after
  pub done : HasDone request image kept old new vault vault' outcome

abbrev pub ReportsRestore : Journal → (old new : BusState) → Answer → Type 0
ReportsRestore journal old new (answer.Done report) = IsRestored journal old new report
ReportsRestore journal old new _ = ⊥

abbrev pub ProbeRefuses : Option ChipName → (old new : BusState) → Refusal → Type 0
ProbeRefuses named old new refusal =
    (fault : ProbeFault) × (refusal ≡ of_probe fault) × ProbeErrors named old new fault

-- Holds if a restore may return this error. Errors of the first checks (`IsCheckedFirst`) leave the chip as it was.
pub record RestoreRefuses (journal : Journal) (old new : BusState) (refusal : Refusal) : Type 0 where
  pub refuses : RestoreErrors journal old new refusal
  pub same : IsCheckedFirst refusal → IsSame old.chip new.chip

abbrev pub HasGivenName : (further : Bool) → Option ChipName → Chip → Type 0
HasGivenName further None chip = ⊤
HasGivenName further (Some name) chip = IsNamed further (Some name) chip.config

pub record Passes (named : Option ChipName) (old new : BusState) : Type 0 where
  pub same : IsSame old.chip new.chip
  pub modelled : IsModelled new
  pub steady_or_idle : IsSteadyOrIdle new
  pub name : HasGivenName old.further named old.chip

-- Holds if a restore that first checks the chip's name, if a name is given, may have this outcome. Even if writing to
-- the chip's files is interrupted, the journal can restore each original chip that it could restore before.
pub record HasRestoredEmulated (journal : Journal) (named : Option ChipName) (old new : BusState)
    (outcome : Result Answer Refusal) : Type 0 where
  -- the bus after the identification that checks the name or, if no name is given, the bus before the restore
  pub found : BusState
  pub only_reads : OnlyReads most_probe old found
  pub same : IsSame old.chip found.chip
  pub config : new.chip.config ≡ old.chip.config
  pub name : OnOk outcome (HasGivenName old.further named old.chip)
  pub returned : MatchResult outcome (ReportsRestore journal found new)
      (λ refusal. RestoreRefuses journal found new refusal ⊎ ProbeRefuses named old new refusal)
  pub over : (first : Chip) (opened : BusState) → CanRestore journal first old
      → IsWrittenOver old.chip new.chip opened.chip → opened.further ≡ old.further → CanRestore journal first opened
  pub back : OnOk outcome ((first : Chip) → CanRestore journal first old → IsSame first new.chip)
