use Rattle.serprog_runs.proofs.Undone.{restore_kept}
use Rattle.serprog_runs.proofs.laws.restore_runs_keep_original.Goals as goal

pub returns : goal.returns
returns g c = λ run file journal first is sound read modelled can.
    restore_kept run file journal first is sound read modelled can
