-- The files that a task names, and the file that it creates or truncates.
use Rattle.std.specs.Prelude.{Option, None, Some}
use Rattle.std.specs.Borrow.{Bor}
use Rattle.nor_args.specs.Text.{Text}
use Rattle.nor_args.specs.declared.job.JournalUse.{JournalUse}
use Rattle.nor_args.specs.declared.job.JournalUse.TheVariants as uses
use Rattle.nor_args.specs.declared.job.Regions.{Regions}
use Rattle.nor_args.specs.declared.job.Task.{Task}
use Rattle.nor_args.specs.declared.job.Task.TheVariants as task
use Rattle.nor_args.specs.declared.job.Wanted.{Wanted}
use Rattle.nor_args.specs.declared.job.Wanted.TheVariants as wanted
use Rattle.nor_console.specs.declared.roles.FileNames.{FileNames}

abbrev pub journal_of : JournalUse → Option (Bor Text)
journal_of (uses.Journal file) = Some file
journal_of (uses.Rehearse stops) = None

abbrev pub made_by : Task → Option (Bor Text)
made_by (task.Read file regions) = Some file
made_by (task.Change change) = journal_of change.journal_use
made_by _ = None

abbrev pub layout_of : Option Regions → Option (Bor Text)
layout_of None = None
layout_of (Some regions) = regions.layout

abbrev pub image_of : Wanted → Option (Bor Text)
image_of (wanted.Write image) = Some image
image_of _ = None

abbrev pub named_by : Task → FileNames
named_by (task.Read file regions) =
    record { layout = layout_of regions; wanted = None; output = Some file; journal = None }
named_by (task.Verify file regions) =
    record { layout = layout_of regions; wanted = Some file; output = None; journal = None }
named_by (task.Change change) = record {
  layout = layout_of change.regions;
  wanted = image_of change.wanted;
  output = None;
  journal = journal_of change.journal_use;
}
named_by (task.Restore journal) = record { layout = None; wanted = None; output = None; journal = Some journal }
named_by _ = record { layout = None; wanted = None; output = None; journal = None }
