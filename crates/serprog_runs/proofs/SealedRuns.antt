-- Lemmas: a change whose journal is durable from the seal on still is if its run then sends no modifying command.
use Rattle.std.proofs.Common.{◌≡◌, ◌∙◌, IfSome, List, None, Option, Some, ap, inl, inr, true}
use Rattle.std.specs.Borrow.{Bor}
use Rattle.nor_model.specs.Bus.{BusState}
use Rattle.nor_files.specs.Files.{FilesState, Found, is_lawful}
use Rattle.nor_journal.specs.Vault.{VaultState}
use Rattle.nor_args.specs.Text.{Text}
use Rattle.nor_args.specs.declared.job.JournalUse.{JournalUse}
use Rattle.nor_args.specs.declared.job.JournalUse.TheVariants as uses
use Rattle.nor_args.specs.declared.job.Operation.{Operation}
use Rattle.nor_args.specs.declared.job.Task.{Task}
use Rattle.nor_args.specs.declared.job.Task.TheVariants as task
use Rattle.board_files.specs.RegionCopies.{reads_out}
use Rattle.board_jobs.specs.Sealing.{SealsChange, SealsJournal, SealsTask}
use Rattle.board_jobs.specs.Sends.{KeepsSent}
use Rattle.board_progress.specs.Logging.{CreatesLog}
use Rattle.serprog_runs.specs.Run.{IsAskedFor}
use Rattle.serprog_runs.specs.Sealed.{SealsJob, SealsOperation}
use Rattle.serprog_runs.proofs.RegionsKept.{only_reads}

module _ {V : Type 0} (state : V → VaultState) (synced : V → Found) (old ended new : BusState) (after : FilesState)
    (unsent : KeepsSent ended new) where
  journal_later : (file : Text) → SealsJournal state synced file old ended after
      → SealsJournal state synced file old new after
  journal_later file (inl same) = inl (unsent ∙ same)
  journal_later file (inr seals) = inr (record {
    found = seals.found;
    changed = seals.changed;
    request = seals.request;
    image = seals.image;
    outcome = seals.outcome;
    unsent_before = seals.unsent_before;
    session = seals.session;
    unsent_after = unsent ∙ seals.unsent_after;
  })

  change_later : (kept : JournalUse) → SealsChange state synced kept old ended after
      → SealsChange state synced kept old new after
  change_later (uses.Journal file) seals = journal_later file.now seals
  change_later (uses.Rehearse stops) same = unsent ∙ same

  pub seals_later : (job : Task) → SealsTask state synced job old ended after → SealsTask state synced job old new after
  seals_later (task.Change change) seals = change_later change.journal_use seals
  seals_later task.Probe seals = tt
  seals_later task.FlashSize seals = tt
  seals_later task.WpStatus seals = tt
  seals_later task.WpList seals = tt
  seals_later (task.Read file regions) seals = tt
  seals_later (task.Verify file regions) seals = tt
  seals_later (task.Restore journal) seals = tt

pub read_seals : {V : Type 0} (state : V → VaultState) (synced : V → Found) (old new : BusState) (after : FilesState)
    (operation : Operation) → reads_out operation.is_backup operation.task ≡ true
    → SealsTask state synced operation.task old new after
read_seals state synced old new after operation reads =
    only_reads (λ job. SealsTask state synced job old new after) (λ file regions. tt) operation.is_backup operation.task
    reads

pub lawful_made : (log : Option (Bor Text)) (old new : FilesState) → CreatesLog log old new
    → is_lawful old.view ≡ true → is_lawful new.view ≡ true
lawful_made None old new made lawful = ap is_lawful made.view ∙ lawful
lawful_made (Some name) old new made lawful = ap (λ nature. nature.lawful) made.0 ∙ lawful

module _ {B V : Type 0} (state : V → VaultState) (synced : V → Found) (last : B → BusState) (after : FilesState)
    (words : List Text) (name : Bor Text) (operation : Operation) (asked : IsAskedFor words name operation) where
  pub job_sealed : (used : Option B)
      → IfSome used (λ connected. SealsOperation state synced operation (last connected) after)
      → IfSome used (λ connected. SealsJob state synced words (last connected) after)
  job_sealed None seals = seals
  job_sealed (Some connected) seals = record { name = name; operation = operation; asked = asked; seals = seals }
