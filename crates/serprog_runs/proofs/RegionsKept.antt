-- Lemmas on a read whose regions have files of their own: its promises still hold after these files were written.
use Rattle.std.proofs.Common.{◌≡◌, ◌∙◌, ℕ, Bool, List, Option, Result, Ok, false, true, refl, sym}
use Rattle.std.proofs.lemmas.Bool.{false≢true}
use Rattle.std.specs.Borrow.{Bor}
use Rattle.nor_model.specs.Bus.{BusState}
use Rattle.nor_files.specs.Files.{FilesState, KeepsFile, View, is_lawful}
use Rattle.nor_layout.specs.declared.ranges.Span.{Span}
use Rattle.nor_probe.specs.declared.table.ChipName.{ChipName}
use Rattle.nor_request.specs.declared.refusal.Refusal.{Refusal}
use Rattle.nor_args.specs.Text.{Text}
use Rattle.nor_args.specs.declared.job.Operation.{Operation}
use Rattle.nor_args.specs.declared.job.Regions.{Regions}
use Rattle.nor_args.specs.declared.job.Task.{Task}
use Rattle.nor_args.specs.declared.job.Task.TheVariants as task
use Rattle.nor_console.specs.declared.answers.Answer.{Answer}
use Rattle.board_jobs.specs.Jobs.{DoesTask, HasReadBy, HasReadChip}
use Rattle.board_files.specs.RegionCopies.{AreCopiedBy, KeepsOutput, reads_out}
use Rattle.board_jobs.specs.Sends.{SendsOnly}
use Rattle.board_files.specs.declared.region_files.RegionFile.{RegionFile}

pub no_backup : (backup : Bool) (job : Task) → reads_out backup job ≡ true → backup ≡ false
no_backup false job reads = refl
no_backup true job reads = absurd (false≢true reads)

pub only_reads : (P : Task → Type 0)
    → ((file : Bor Text) (regions : Option Regions) → P (task.Read file regions))
    → (backup : Bool) (job : Task) → reads_out backup job ≡ true → P job
only_reads P read false (task.Read file regions) reads = read file regions
only_reads P read false task.Probe reads = absurd (false≢true reads)
only_reads P read false task.FlashSize reads = absurd (false≢true reads)
only_reads P read false task.WpStatus reads = absurd (false≢true reads)
only_reads P read false task.WpList reads = absurd (false≢true reads)
only_reads P read false (task.Verify file regions) reads = absurd (false≢true reads)
only_reads P read false (task.Change change) reads = absurd (false≢true reads)
only_reads P read false (task.Restore journal) reads = absurd (false≢true reads)
only_reads P read true job reads = absurd (false≢true reads)

pub none_copied : (backup : Bool) (job : Task) (files : List RegionFile) (view : View) → reads_out backup job ≡ false
    → AreCopiedBy backup job files view
none_copied false (task.Read file regions) files view reads = absurd (false≢true (sym reads))
none_copied false task.Probe files view reads = tt
none_copied false task.FlashSize files view reads = tt
none_copied false task.WpStatus files view reads = tt
none_copied false task.WpList files view reads = tt
none_copied false (task.Verify file regions) files view reads = tt
none_copied false (task.Change change) files view reads = tt
none_copied false (task.Restore journal) files view reads = tt
none_copied true job files view reads = tt

module _ (ranges : Option (List Span)) (bytes : List ℕ) (before : View) (mid after : FilesState)
    (same : after.view.nature ≡ mid.view.nature) (old new : BusState) where
  read_kept : (named : Option ChipName) (file : Text) (outcome : Result Answer Refusal)
      → (is_lawful mid.view ≡ true → KeepsFile file mid after)
      → HasReadChip named file ranges mid.view old new outcome
      → HasReadChip named file ranges after.view old new outcome
  read_kept named file outcome keeps was = record {
    found = was.found;
    chip = was.chip;
    identified = was.identified;
    read = record {
      empty = was.read.empty;
      filled = was.read.filled;
      fresh = was.read.fresh;
      read = was.read.read;
      holds = λ lawful. let at_mid = rw same at lawful in
          ((was.read.holds at_mid).0, (keeps at_mid).seen ∙ (was.read.holds at_mid).1);
    };
  }

  by_kept : (backup : Bool) (named : Option ChipName) (file : Text) (outcome : Result Answer Refusal)
      → backup ≡ false → (is_lawful mid.view ≡ true → KeepsFile file mid after)
      → HasReadBy backup named file ranges before mid old new outcome
      → HasReadBy backup named file ranges before after old new outcome
  by_kept false named file outcome is keeps was = read_kept named file outcome keeps was
  by_kept true named file outcome is keeps was = absurd (false≢true (sym is))

  pub task_kept : (operation : Operation) (job : Task) (found : Answer) → reads_out operation.is_backup job ≡ true
      → KeepsOutput job mid after → DoesTask operation job ranges bytes before mid old new (Ok found)
      → DoesTask operation job ranges bytes before after old new (Ok found)
  task_kept operation job found reads =
      only_reads (λ job. KeepsOutput job mid after → DoesTask operation job ranges bytes before mid old new (Ok found)
      → DoesTask operation job ranges bytes before after old new (Ok found))
      (λ file regions keeps was. by_kept operation.is_backup operation.named file.now (Ok found)
      (no_backup operation.is_backup job reads) keeps was)
      operation.is_backup job reads

  pub sends_kept : (operation : Operation) (job : Task) → reads_out operation.is_backup job ≡ true
      → SendsOnly job bytes old new mid → SendsOnly job bytes old new after
  sends_kept operation job reads =
      only_reads (λ job. SendsOnly job bytes old new mid → SendsOnly job bytes old new after)
      (λ file regions sends. sends) operation.is_backup job reads
