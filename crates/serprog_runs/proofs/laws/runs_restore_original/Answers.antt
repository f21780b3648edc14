use Rattle.serprog_runs.proofs.Undone.{run_undone}
use Rattle.serprog_runs.proofs.laws.runs_restore_original.Goals as goal

pub returns : goal.returns
returns g c = λ run change file is journalled modelled board idle lawful.
    run_undone run change file is journalled modelled board idle lawful
