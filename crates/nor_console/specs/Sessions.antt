-- Sessions and backups with their journal in a file: the result of the call, and the file.
use Rattle.std.specs.Prelude.{◌≡◌, ℕ, true, List, Option, None, Some, Result}
use Rattle.nor_model.specs.Bus.{BusState}
use Rattle.nor_files.specs.Files.{FilesState, Found, IsKnownFile, View, is_lawful}
use Rattle.nor_journal.specs.Vault.{IsFresh, VaultState}
use Rattle.nor_probe.specs.declared.table.ChipName.{ChipName}
use Rattle.nor_probe.specs.Known.{IsModelled}
use Rattle.nor_request.specs.declared.refusal.Refusal.{Refusal}
use Rattle.nor_request.specs.declared.report.Report.{Report}
use Rattle.nor_request.specs.declared.request.Request.{Request}
use Rattle.nor_session.specs.Backup.{BackupAlways, BackupHonest, BackupModelled}
use Rattle.nor_session.specs.Headline.{KeepsOriginal}
use Rattle.nor_session.specs.Session.{SessionAlways, SessionHonest, SessionModelled}
use Rattle.nor_session.specs.Announcing.{Announces}
use Rattle.nor_session.specs.declared.announcement.Announcement.{Announcement}
use Rattle.nor_args.specs.Text.{Text}
use Rattle.nor_console.specs.Readings.{AnswersCall, ReportsReadOut}
use Rattle.nor_console.specs.Stored.{IsKeptFile}
use Rattle.nor_console.specs.declared.answers.Answer.{Answer}
use Rattle.nor_console.specs.declared.answers.Answer.TheVariants as answer

abbrev pub ReportsDone : Report → Answer → Type 0
ReportsDone report (answer.Done returned) = returned ≡ report
ReportsDone report _ = ⊥

-- Holds if `outcome` is the result of a session that obeyed its contract. `vault'` is `vault` after the session.
pub record HasRunSession (request : Request) (image : List ℕ) (old new : BusState) (vault vault' : VaultState)
    (outcome : Result Answer Refusal) : Type 0 where
  pub result : Result Report Refusal
  pub keeps : KeepsOriginal old new vault'
  pub always : SessionAlways request image old new vault vault' result
  pub honest : old.honest ≡ true → SessionHonest request image old new result
  pub modelled : IsModelled old → SessionModelled request image old new vault vault' result
  pub returned : AnswersCall ReportsDone result outcome

-- Holds if an announcement for which `Was` holds was made, or no modifying command was sent. After a success, `Was`
-- must hold for the numbers in the report.
pub record HasAnnounced (Was : Announcement → Type 0) (old new : BusState)
    (outcome : Result Answer Refusal) : Type 0 where
  pub result : Result Report Refusal
  pub announced : Announces Was old new result
  pub returned : AnswersCall ReportsDone result outcome

-- Holds if a session ran with its journal in `file`, which was missing before or not known (`IsKnownFile`). If the
-- files obey their contract, the file then has exactly the vault's bytes, and they are durable if the vault is sealed.
pub record HasRunInFile (request : Request) (image : List ℕ) (file : Text) (before : View) (after : FilesState)
    (old new : BusState) (outcome : Result Answer Refusal) : Type 0 where
  pub missing : IsKnownFile file before → before.seen file ≡ None
  pub vault : VaultState
  pub vault' : VaultState
  pub fresh : IsFresh vault
  pub kept_in : is_lawful after.view ≡ true → IsKeptFile file vault' after
  pub ran : HasRunSession request image old new vault vault' outcome

-- Holds if a call (`Ran`) used a vault that a store lent in `file` and then took back. At each moment of the call, once
-- the vault is sealed, a host crash would leave exactly the vault's bytes in the file.
pub record SealsDurably {V : Type 0} (state : V → VaultState) (synced : V → Found)
    (Ran : (vault vault' : VaultState) → Type 0) (file : Text) (after : FilesState) : Type 0 where
  pub lent : V
  -- the vault directly after the call, before the store took it back
  pub ended : V
  pub fresh : IsFresh (state lent)
  pub telling : (state lent).telling ≡ true
  pub ran : Ran (state lent) (state ended)
  -- For each value that the vault may have during the call: `synced` is what a host crash would leave of its file.
  pub durable : (vault : V) → (state vault).telling ≡ true → (state vault).sealed ≡ true
      → synced vault ≡ Some (state vault).bytes
  pub kept_in : IsKeptFile file (state ended) after

pub record HasBackedUp (named : Option ChipName) (old new : BusState) (vault vault' : VaultState)
    (outcome : Result Answer Refusal) : Type 0 where
  pub result : Result Report Refusal
  pub always : BackupAlways named old new vault vault' result
  pub honest : old.honest ≡ true → BackupHonest named old new result
  pub modelled : IsModelled old → BackupModelled named old new vault' result
  pub returned : AnswersCall ReportsReadOut result outcome

pub record HasBackedUpInFile (named : Option ChipName) (file : Text) (before : View) (after : FilesState)
    (old new : BusState) (outcome : Result Answer Refusal) : Type 0 where
  pub missing : IsKnownFile file before → before.seen file ≡ None
  pub vault : VaultState
  pub vault' : VaultState
  pub fresh : IsFresh vault
  pub kept_in : is_lawful after.view ≡ true → IsKeptFile file vault' after
  pub ran : HasBackedUp named old new vault vault' outcome
