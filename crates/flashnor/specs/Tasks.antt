-- Whether a task writes the chip's contents back to the chip's files, and which journal a task creates.
use Rattle.std.specs.Prelude.{Bool, true, false, Option, None}
use Rattle.std.specs.Borrow.{Bor}
use Rattle.nor_console.specs.Tasks.{journal_of}
use Rattle.nor_args.specs.Text.{Text}
use Rattle.nor_args.specs.declared.job.JournalUse.{JournalUse}
use Rattle.nor_args.specs.declared.job.JournalUse.TheVariants as uses
use Rattle.nor_args.specs.declared.job.Task.{Task}
use Rattle.nor_args.specs.declared.job.Task.TheVariants as task

abbrev pub keeps_journal : JournalUse → Bool
keeps_journal (uses.Journal file) = true
keeps_journal (uses.Rehearse stops) = false

abbrev pub writes_back : Task → Bool
writes_back (task.Change change) = keeps_journal change.journal_use
writes_back (task.Restore journal) = true
writes_back _ = false

abbrev pub journal_by : Task → Option (Bor Text)
journal_by (task.Change change) = journal_of change.journal_use
journal_by _ = None
