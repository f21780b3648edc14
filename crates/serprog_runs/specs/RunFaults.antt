-- The reason why a run ends before its job, if a file of the job can't be used.
use Rattle.board_files.specs.declared.early_ends.EarlyEnd.{EarlyEnd}
use Rattle.board_files.specs.declared.early_ends.EarlyEnd.TheVariants as early
use Rattle.serprog_runs.specs.declared.run_fault.RunFault.{RunFault}
use Rattle.serprog_runs.specs.declared.run_fault.RunFault.TheVariants as run_fault

abbrev pub of_early : EarlyEnd → RunFault
of_early (early.Fault fault) = run_fault.Fault fault
of_early ended = run_fault.Early ended
