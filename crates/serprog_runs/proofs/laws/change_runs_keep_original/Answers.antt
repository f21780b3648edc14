use Rattle.serprog_runs.proofs.Undone.{change_kept}
use Rattle.serprog_runs.proofs.laws.change_runs_keep_original.Goals as goal

pub returns : goal.returns
returns g c = λ run change file is journalled modelled settled lawful.
    change_kept run change file is journalled modelled settled lawful
