use Rattle.board_jobs.proofs.OriginalBackedUp.{backed_up}
use Rattle.board_jobs.proofs.laws.backups_restore_original.Goals as goal

pub returns : goal.returns
returns g c = λ operation ranges bytes before after old new answer file regions is backup ends modelled lawful.
    backed_up operation ranges bytes before (g.R.Store.state after) old new answer file modelled lawful regions is
    backup ends
