-- A change sends modifying commands only in a session whose journal is durable from the seal on, over any bus.
use Rattle.std.specs.Prelude.{◌⊎◌, ℕ, List, Result, ⊤}
use Rattle.nor_model.specs.Bus.{BusState}
use Rattle.nor_files.specs.Files.{FilesState, Found}
use Rattle.nor_journal.specs.Vault.{VaultState}
use Rattle.nor_request.specs.declared.refusal.Refusal.{Refusal}
use Rattle.nor_request.specs.declared.request.Request.{Request}
use Rattle.nor_args.specs.Text.{Text}
use Rattle.nor_console.specs.Sessions.{HasRunSession, SealsDurably}
use Rattle.nor_console.specs.declared.answers.Answer.{Answer}
use Rattle.nor_args.specs.declared.job.Change.{Change}
use Rattle.nor_args.specs.declared.job.JournalUse.{JournalUse}
use Rattle.nor_args.specs.declared.job.JournalUse.TheVariants as uses
use Rattle.nor_args.specs.declared.job.Task.{Task}
use Rattle.nor_args.specs.declared.job.Task.TheVariants as task
use Rattle.board_jobs.specs.Sends.{KeepsSent}

-- Holds if a session ran with its journal in `file`, and no modifying command was sent before or after the session.
-- During the session, from the seal on, a host crash leaves exactly the journal in the file (`SealsDurably`). If the
-- journal was never sealed, the session sent no modifying command (`HasRunSession`).
pub record SealsFirst {V : Type 0} (state : V → VaultState) (synced : V → Found) (file : Text) (old new : BusState)
    (after : FilesState) : Type 0 where
  -- the bus directly before and directly after the session
  pub found : BusState
  pub changed : BusState
  pub request : Request
  pub image : List ℕ
  pub outcome : Result Answer Refusal
  pub unsent_before : KeepsSent old found
  pub session : SealsDurably state synced
      (λ vault vault'. HasRunSession request image found changed vault vault' outcome) file after
  pub unsent_after : KeepsSent changed new

-- Holds if a change with its journal in `file` sent no modifying command, or if `SealsFirst` holds.
abbrev pub SealsJournal : {V : Type 0} → (state : V → VaultState) → (synced : V → Found) → (file : Text)
    → (old new : BusState) → (after : FilesState) → Type 0
SealsJournal state synced file old new after =
    KeepsSent old new ⊎ SealsFirst state synced file old new after

-- Holds if a change sent no modifying command. Except for a rehearsal, also holds if the change sent modifying commands
-- only in a session whose journal is durable from the seal on (`SealsFirst`).
abbrev pub SealsChange : {V : Type 0} → (state : V → VaultState) → (synced : V → Found) → JournalUse
    → (old new : BusState) → (after : FilesState) → Type 0
SealsChange state synced (uses.Journal file) old new after = SealsJournal state synced file.now old new after
SealsChange state synced (uses.Rehearse stops) old new after = KeepsSent old new

-- For a change: holds if `SealsChange` holds. For any other task: always holds.
abbrev pub SealsTask : {V : Type 0} → (state : V → VaultState) → (synced : V → Found) → Task
    → (old new : BusState) → (after : FilesState) → Type 0
SealsTask state synced (task.Change change) old new after = SealsChange state synced change.journal_use old new after
SealsTask state synced _ old new after = ⊤
