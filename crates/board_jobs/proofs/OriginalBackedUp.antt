-- A backup job on a modelled bus: the chip is untouched, and after success the file can restore it.
use Rattle.std.proofs.Common.{◌≡◌, ℕ, List, Option, Result, Ok, Err, IfOk, true}
use Rattle.std.specs.Prelude.{OnOk}
use Rattle.std.specs.Borrow.{Bor}
use Rattle.nor_model.specs.Bus.{BusState}
use Rattle.nor_model.specs.Chip.{IsSame}
use Rattle.nor_files.specs.Files.{FilesState, View, is_lawful}
use Rattle.nor_journal.specs.Vault.{Completed, VaultState}
use Rattle.nor_layout.specs.declared.ranges.Span.{Span}
use Rattle.nor_probe.specs.Found.{Finds}
use Rattle.nor_probe.specs.Known.{IsModelled}
use Rattle.nor_probe.specs.declared.probes.Found.{Found}
use Rattle.nor_probe.specs.declared.table.ChipName.{ChipName}
use Rattle.nor_probe.specs.declared.probes.ProbeFault.{ProbeFault}
use Rattle.nor_request.specs.declared.refusal.Refusal.{Refusal}
use Rattle.nor_request.specs.declared.report.Report.{Report}
use Rattle.nor_session.specs.Backup.{BackupModelled}
use Rattle.nor_args.specs.Text.{Text}
use Rattle.nor_args.specs.declared.job.Operation.{Operation}
use Rattle.nor_args.specs.declared.job.Regions.{Regions}
use Rattle.nor_args.specs.declared.job.Task.TheVariants as task
use Rattle.nor_console.specs.Readings.{AnswersCall, ReportsReadOut}
use Rattle.nor_console.specs.Stored.{IsKeptFile}
use Rattle.nor_console.specs.declared.answers.Answer.{Answer}
use Rattle.nor_jobs.specs.Finding.{IsProbed}
use Rattle.board_jobs.specs.Jobs.{EndsJob, HasReadBy}
use Rattle.board_jobs.specs.Original.{IsBackedUpIn}
use Rattle.board_jobs.proofs.Original.{looked_by, modelled_after}
use Rattle.board_jobs.proofs.OriginalLooked.{backup_same, can_restore_same}

probed_same : (old new : BusState) (probed : Result Found ProbeFault) (chip : Found) → IsProbed probed (Ok chip)
    → IfOk probed (Finds old new) → IsSame old.chip new.chip
probed_same old new (Ok found) chip is finds = finds.rested.unchanged.same
probed_same old new (Err fault) chip is finds = absurd (cc is)

module _ (named : Option ChipName) (file : Text) (after : FilesState) (old found new : BusState)
    (vault vault' : VaultState) (same : IsSame old.chip found.chip) (kept : IsKeptFile file vault' after) where
  saved_in : (result : Result Report Refusal) (answer : Answer) → AnswersCall ReportsReadOut result (Ok answer)
      → OnOk result (Completed vault vault') → BackupModelled named found new vault' result
      → IsBackedUpIn file old.chip new after
  saved_in (Ok report) answer returned completed modelled = record {
    bytes = vault'.bytes;
    durable = kept.durable completed.sealed;
    saves = backup_same found.chip old.chip same vault'.bytes (modelled.saves kept.telling);
    back = let can = modelled.restorable kept.telling in record {
      journal = can.journal;
      back = can_restore_same found.chip old.chip same can.journal.content new can.back;
    };
  }
  saved_in (Err refusal) answer returned completed modelled = absurd returned

module _ (operation : Operation) (ranges : Option (List Span)) (bytes : List ℕ) (view : View) (after : FilesState)
    (old new : BusState) (answer : Answer) (file : Bor Text) (modelled : IsModelled old)
    (lawful : is_lawful after.view ≡ true) where
  backup_ends : HasReadBy true operation.named file.now ranges view after old new (Ok answer)
      → IsBackedUpIn file.now old.chip new after
  backup_ends does =
      let there = modelled_after (looked_by does.identified.always.only_reads) modelled in
      saved_in operation.named file.now after old does.found new does.saved.vault does.saved.vault'
      (probed_same old does.found does.identified.probed does.chip does.identified.returned
      (does.identified.honest modelled.honest).finds)
      (does.saved.kept_in lawful) does.saved.ran.result answer does.saved.ran.returned does.saved.ran.always.sealed
      (does.saved.ran.modelled there)

  pub backed_up : (regions : Option Regions) → operation.task ≡ task.Read file regions
      → operation.is_backup ≡ true → EndsJob operation ranges bytes view after old new (Ok answer)
      → IsBackedUpIn file.now old.chip new after
  backed_up regions is backup ends = backup_ends (rw (is, backup) at ends)
