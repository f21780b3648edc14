-- Reading the files of a task before the call to the engine: which faults may occur, and that no file changes.
use Rattle.std.proofs.Common.{ap, inl, inr}
use Rattle.nor_files.specs.Files.{AreUntouched, FilesState, KeepsFile, Name, View}
use Rattle.nor_args.specs.declared.job.Task.{Task}
use Rattle.nor_args.specs.declared.job.Task.TheVariants as task
use Rattle.nor_args.specs.declared.job.Wanted.{Wanted}
use Rattle.nor_args.specs.declared.job.Wanted.TheVariants as wanted
use Rattle.nor_jobs.specs.Sources.{FailsImage, FailsSources}
use Rattle.nor_console.specs.declared.messages.Fault.{Fault}
use Rattle.flashnor.specs.Run.{FailsTask, FailsToReadImage}

image_fails : (view : View) (what : Wanted) (fault : Fault) → FailsImage view what fault
    → FailsToReadImage view what fault
image_fails view (wanted.Write image) fault fails = fails
image_fails view wanted.Erase fault fails = absurd fails
image_fails view (wanted.Range start len) fault fails = absurd fails

pub task_fails : (view : View) (done : Task) (fault : Fault) → FailsSources view done fault → FailsTask view done fault
task_fails view (task.Read file regions) fault fails = inl fails
task_fails view (task.Verify file regions) fault fails = fails
task_fails view (task.Change change) fault (inl fails) = inl fails
task_fails view (task.Change change) fault (inr fails) = inr (inl (image_fails view change.wanted fault fails))
task_fails view (task.Restore journal) fault fails = inl fails
task_fails view _ fault fails = absurd fails

pub untouched_keeps : {old new : FilesState} (name : Name) → AreUntouched old new → KeepsFile name old new
untouched_keeps name same = record {
  out = ap (λ (v : View). v.out name) same.view;
  seen = ap (λ (v : View). v.seen name) same.view;
  leaves = same.leaves name;
}
