use Rattle.board_jobs.proofs.OriginalChanged.{changes_restorably}
use Rattle.board_jobs.proofs.laws.changes_keep_original.Goals as goal

pub returns : goal.returns
returns g c = λ operation ranges bytes before after old new result change file is kept ends modelled settled lawful.
    changes_restorably operation change ranges bytes file before (g.R.Store.state after) old new modelled settled lawful
    is kept result ends
