-- Lemmas: a call's promises hold after the chip's files were written, and for the files before the trace was created.
use Rattle.std.proofs.Common.{◌≡◌, ℕ, List, Option, None, Some, arith, Result, true}
use Rattle.std.specs.Borrow.{Bor}
use Rattle.nor_model.specs.Bus.{BusState}
use Rattle.nor_probe.specs.declared.table.ChipName.{ChipName}
use Rattle.nor_files.specs.Files.{FilesState, KeepsFile, View, is_lawful}
use Rattle.nor_journal.specs.Vault.{VaultState}
use Rattle.nor_request.specs.declared.refusal.Refusal.{Refusal}
use Rattle.nor_args.specs.Text.{Text}
use Rattle.nor_layout.specs.declared.ranges.Span.{Span}
use Rattle.nor_args.specs.declared.job.Change.{Change}
use Rattle.nor_args.specs.declared.job.Regions.{Regions}
use Rattle.nor_args.specs.declared.job.Wanted.{Wanted}
use Rattle.nor_args.specs.declared.job.Wanted.TheVariants as wanted
use Rattle.nor_args.specs.declared.job.JournalUse.{JournalUse}
use Rattle.nor_args.specs.declared.job.Task.{Task}
use Rattle.nor_args.specs.declared.job.Task.TheVariants as task
use Rattle.nor_args.specs.declared.programmer.Programmer.{Programmer}
use Rattle.flashnor.specs.Changes.{IsKeptIn}
use Rattle.nor_console.specs.Stored.{IsKeptFile, AreTwo}
use Rattle.nor_console.specs.Requests.{AreRangesOf, IsLayoutText}
use Rattle.nor_console.specs.Tasks.{image_of, layout_of, named_by, journal_of}
use Rattle.nor_jobs.specs.Sources.{IsAskedOf}
use Rattle.flashnor.specs.Run.{ChangesChip, DoesJob, IsViewBut}
use Rattle.flashnor.specs.Tasks.{writes_back}
use Rattle.nor_console.specs.declared.answers.Answer.{Answer}
use Rattle.flashnor.proofs.Stays.{StayApart, not_that}
use Rattle.flashnor.proofs.Traced.{reads_before}

pub kept_after : {file : Text} {vault : VaultState} {s2 s3 : FilesState} → KeepsFile file s2 s3 → IsKeptFile file vault s2
    → IsKeptFile file vault s3
kept_after stays kept = grind arith

pub setup_done : (done : Task) (amid : View) (after : FilesState) (programmer : Programmer) (named : Option ChipName)
    (old new : BusState) (outcome : Result Answer Refusal) → writes_back done ≡ true
    → DoesJob amid after programmer named done old new outcome → new.chip.config ≡ old.chip.config
setup_done done amid after programmer named old new outcome puts does = grind arith

module _ (programmer : Programmer) (s2 s3 : FilesState) (nature : s3.view.nature ≡ s2.view.nature)
    (last : is_lawful s2.view ≡ true → StayApart programmer.image programmer.status s2 s3) where
  kept_in_after : (kept : JournalUse) (vault vault' : VaultState)
      → AreTwo s2.view.nature programmer.image (journal_of kept)
      → AreTwo s2.view.nature programmer.status (journal_of kept) → IsKeptIn kept vault vault' s2
      → IsKeptIn kept vault vault' s3
  kept_in_after kept vault vault' one other before = grind arith

  change_after : (change : Change) (amid : View) (named : Option ChipName) (old new : BusState)
      (outcome : Result Answer Refusal) → AreTwo s2.view.nature programmer.image (journal_of change.journal_use)
      → AreTwo s2.view.nature programmer.status (journal_of change.journal_use)
      → ChangesChip amid s2 programmer.chip named change old new outcome
      → ChangesChip amid s3 programmer.chip named change old new outcome
  change_after change amid named old new outcome one other does =
      let kept = kept_in_after change.journal_use does.changed.vault does.changed.vault' one other does.changed.kept_in in
      grind arith

  pub does_after : (done : Task) (amid : View) (named : Option ChipName) (old new : BusState)
      (outcome : Result Answer Refusal) → writes_back done ≡ true
      → AreTwo s2.view.nature programmer.image (named_by done).journal
      → AreTwo s2.view.nature programmer.status (named_by done).journal
      → DoesJob amid s2 programmer named done old new outcome
      → DoesJob amid s3 programmer named done old new outcome
  does_after (task.Change change) amid named old new outcome puts one other does =
      change_after change amid named old new outcome one other does
  does_after (task.Restore journal) amid named old new outcome puts one other does = does
  does_after _ amid named old new outcome puts one other does = absurd cc

layout_before : (trace : Option (Bor Text)) (old amid : View) (file : Option (Bor Text)) (text : List ℕ)
    → AreTwo old.nature trace file → IsViewBut trace old amid → IsLayoutText amid None file text
    → IsLayoutText old None file text
layout_before trace old amid None text two but is = is
layout_before trace old amid (Some name) text two but is =
    (reads_before trace name.now 16777217 _ old amid (not_that old.nature trace name two) but is.0, is.1)

pub ranges_before : (trace : Option (Bor Text)) (old amid : View) (regions : Option Regions)
    (ranges : Option (List Span)) → AreTwo old.nature trace (layout_of regions) → IsViewBut trace old amid
    → AreRangesOf amid None regions ranges → AreRangesOf old None regions ranges
ranges_before trace old amid None ranges two but are = are
ranges_before trace old amid (Some regions) None two but are = absurd are
ranges_before trace old amid (Some regions) (Some ranges) two but are = record {
  text = are.text;
  read = layout_before trace old amid regions.layout are.text two but are.read;
  included = are.included;
}

pub buffer_before : (trace : Option (Bor Text)) (old amid : View) (what : Wanted) (size : ℕ) (asked : List ℕ)
    → AreTwo old.nature trace (image_of what) → IsViewBut trace old amid → IsAskedOf amid what size asked
    → IsAskedOf old what size asked
buffer_before trace old amid (wanted.Write image) size asked two but is = (
  is.0,
  reads_before trace image.now 16777217 _ old amid (not_that old.nature trace image two) but is.1,
  is.2,
)
buffer_before trace old amid _ size asked two but is = is
