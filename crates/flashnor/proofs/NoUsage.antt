-- A job of flashnor has no usage fault: only a layout without a file would cause one, and flashnor has no such layout.
use Rattle.std.proofs.Common.{◌≡◌, Bool, List, Option, None, Some, arith, false, inl, inr, refl, true}
use Rattle.std.specs.Prelude.{IsSomeAnd, option_map}
use Rattle.std.specs.Borrow.{Bor}
use Rattle.nor_files.specs.Files.{Nature, View}
use Rattle.nor_args.specs.Given.{Texts, given_by, gives_layout, layout_file}
use Rattle.nor_args.specs.Job.{IsRegions, IsTask}
use Rattle.nor_args.specs.Text.{Text}
use Rattle.nor_args.specs.Words.{IsJob}
use Rattle.nor_args.specs.declared.job.ChipJob.{ChipJob}
use Rattle.nor_args.specs.declared.job.Job.TheVariants as job
use Rattle.nor_args.specs.declared.job.JournalUse.{JournalUse}
use Rattle.nor_args.specs.declared.job.JournalUse.TheVariants as uses
use Rattle.nor_args.specs.declared.job.Regions.{Regions}
use Rattle.nor_args.specs.declared.job.Task.{Task}
use Rattle.nor_args.specs.declared.job.Task.TheVariants as task
use Rattle.nor_args.specs.declared.job.Wanted.{Wanted}
use Rattle.nor_args.specs.declared.job.Wanted.TheVariants as wanted
use Rattle.nor_args.specs.declared.reasons.Reason.{Reason}
use Rattle.nor_args.specs.declared.words.UsageFault.{UsageFault}
use Rattle.nor_console.specs.Requests.{FailsToInclude, LacksText}
use Rattle.nor_console.specs.declared.messages.Fault.TheVariants as end
use Rattle.flashnor.specs.Roles.{FailsFileRoles}
use Rattle.flashnor.specs.Run.{FailsJob, FailsTask, FailsToKeep, FailsToReadImage, FailsToStart}
use Rattle.flashnor.specs.Tasks.{writes_back}

module _ (view : View) (usage : UsageFault) (reason : Reason) where
  file-missing : (file : Option (Bor Text)) → LacksText view None file (end.Usage usage reason) → file ≡ None
  file-missing None lacks = refl
  file-missing (Some name) (inl unread) = absurd unread
  file-missing (Some name) (inr long) = absurd long

  image-read : (what : Wanted) → FailsToReadImage view what (end.Usage usage reason) → ⊥
  image-read (wanted.Write image) fails = fails
  image-read wanted.Erase fails = cc
  image-read (wanted.Range start len) fails = fails

  journal-made : (kept : JournalUse) → FailsToKeep view kept (end.Usage usage reason) → ⊥
  journal-made (uses.Journal file) fails = fails
  journal-made (uses.Rehearse stops) fails = fails

  module _ (given : Texts) (no_fmap : given.fmap ≡ false) (no_ifd : given.ifd ≡ false) where
    layout-named : (file : Option (Bor Text)) → gives_layout given ≡ true
        → option_map (λ (name : Bor Text). name.now) file ≡ layout_file given → file ≡ None → ⊥
    layout-named file has same missing = grind arith

    layout-read : (regions : Option Regions) → IsRegions given regions
        → FailsToInclude view None regions (end.Usage usage reason) → ⊥
    layout-read None is fails = fails
    layout-read (Some regions) is fails =
        layout-named regions.layout is.0 is.1 (file-missing regions.layout fails)

    task-run : (done : Task) → IsTask given done → FailsTask view done (end.Usage usage reason) → ⊥
    task-run (task.Read file regions) is (inl fails) = layout-read regions is.1 fails
    task-run (task.Read file regions) is (inr fails) = fails
    task-run (task.Verify file regions) is (inl fails) = layout-read regions is.1 fails
    task-run (task.Verify file regions) is (inr fails) = fails
    task-run (task.Change change) is (inl fails) = layout-read change.regions is.regions fails
    task-run (task.Change change) is (inr (inl fails)) = image-read change.wanted fails
    task-run (task.Change change) is (inr (inr fails)) = journal-made change.journal_use fails
    task-run (task.Restore journal) is (inl fails) = fails
    task-run (task.Restore journal) is (inr fails) = fails.2
    task-run _ is fails = absurd fails

module _ (usage : UsageFault) (reason : Reason) (on_chip : ChipJob) where
  roles-checked : (nature : Nature) → FailsFileRoles nature on_chip (end.Usage usage reason) → ⊥
  roles-checked nature (inl twice) = twice.3
  roles-checked nature (inr (inl stream)) = stream
  roles-checked nature (inr (inr (inl unseen))) = unseen.1
  roles-checked nature (inr (inr (inr without))) = without.1

  file-named : (name : Option (Bor Text)) → IsSomeAnd name (λ of. ⊥) → ⊥
  file-named name is = grind arith

  chip-started : (puts : Bool) (view : View) → FailsToStart puts view on_chip.programmer (end.Usage usage reason) → ⊥
  chip-started puts view fails = grind arith

  pub no_usage : (view : View) (words : List Text) → IsJob words (job.Chip on_chip)
      → FailsJob view on_chip (end.Usage usage reason) → ⊥
  no_usage view words asks (inl roles) = roles-checked view.nature roles
  no_usage view words asks (inr (inl starts)) = chip-started (writes_back on_chip.task) view starts
  no_usage view words asks (inr (inr (inl trace))) = file-named on_chip.programmer.trace trace
  no_usage view words asks (inr (inr (inr (inl roles)))) = roles-checked view.nature roles
  no_usage view words asks (inr (inr (inr (inr traced)))) =
      task-run traced.0 usage reason (given_by words) refl refl on_chip.task asks.asked.1.task traced.2
