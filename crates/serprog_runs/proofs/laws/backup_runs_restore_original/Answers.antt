use Rattle.serprog_runs.proofs.Undone.{backup_kept}
use Rattle.serprog_runs.proofs.laws.backup_runs_restore_original.Goals as goal

pub returns : goal.returns
returns g c = λ run file regions is backup modelled lawful zero.
    backup_kept run file regions is backup modelled lawful zero
