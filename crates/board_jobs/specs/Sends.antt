-- The modifying commands that a job may send to the chip, over any bus.
use Rattle.std.specs.Prelude.{◌≡◌, ◌⊎◌, ℕ, true, List, Some}
use Rattle.nor_model.specs.Bus.{BusState}
use Rattle.nor_files.specs.Files.{FilesState, IsDurable, is_lawful}
use Rattle.nor_journal.specs.Text.{Content as Journal}
use Rattle.nor_request.specs.declared.request.What.{What}
use Rattle.nor_scan.specs.SavedScan.{IsJournal}
use Rattle.nor_session.specs.Session.{IsSavedCode, IsWrittenCode, SendsSaved}
use Rattle.nor_args.specs.Text.{Text}
use Rattle.nor_args.specs.declared.job.JournalUse.{JournalUse}
use Rattle.nor_args.specs.declared.job.JournalUse.TheVariants as uses
use Rattle.nor_args.specs.declared.job.Task.{Task}
use Rattle.nor_args.specs.declared.job.Task.TheVariants as task
use Rattle.nor_console.specs.Requests.{what_of}
use Rattle.board_jobs.specs.BoardBits.{IsFitted}

abbrev pub KeepsSent : (old new : BusState) → Type 0
KeepsSent old new = new.sent ≡ old.sent

-- Holds if the file durably contains a journal, and what was sent fits this journal (`SendsSaved`):
-- - Each newly targeted sector is saved in the journal, or lies past the end of a chip that the journal saves whole.
-- - Each new status write has the non-volatile bits of the journal, but protection bits that `what` allows.
-- - The numbers of erases and programs are limited, and no unknown transaction was sent.
pub record SendsJournalled (what : What) (file : Text) (old new : BusState) (after : FilesState) : Type 0 where
  pub bytes : List ℕ
  pub journal : IsJournal bytes
  pub durable : IsDurable file (Some bytes) after
  pub sends : SendsSaved (IsWrittenCode what journal.content) 1 journal.content old new

-- Holds if a change sent no modifying command. Except for a rehearsal, also holds if only what the journal in its file
-- allows was sent (`SendsJournalled`), or if files don't obey their contract.
abbrev pub SendsChange : What → JournalUse → (old new : BusState) → FilesState → Type 0
SendsChange what (uses.Journal file) old new after =
    KeepsSent old new ⊎ (is_lawful after.view ≡ true → SendsJournalled what file.now old new after)
SendsChange what (uses.Rehearse stops) old new after = KeepsSent old new

-- Holds if `bytes` are a journal, and what was sent fits this journal (`SendsSaved`):
-- - Each newly targeted sector is saved in the journal, or lies past the end of a chip that the journal saves whole.
-- - Each new status write has the non-volatile bits of `fitted`, or these with all protection bits clear.
-- - The numbers of erases and programs are limited, and no unknown transaction was sent.
pub record SendsRestore (bytes : List ℕ) (old new : BusState) : Type 0 where
  pub journal : IsJournal bytes
  pub fitted : Journal
  pub fits : IsFitted journal.content fitted
  pub sends : SendsSaved (IsSavedCode fitted) 1 fitted old new

-- Holds if a job sent no modifying command, or if `SendsChange` (for a change) or `SendsRestore` (for a restore) holds.
abbrev pub SendsOnly : Task → (bytes : List ℕ) → (old new : BusState) → FilesState → Type 0
SendsOnly (task.Change change) bytes old new after =
    SendsChange (what_of change.wanted) change.journal_use old new after
SendsOnly (task.Restore journal) bytes old new after = KeepsSent old new ⊎ SendsRestore bytes old new
SendsOnly _ bytes old new after = KeepsSent old new
