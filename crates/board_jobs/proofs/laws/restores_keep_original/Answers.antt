use Rattle.board_jobs.proofs.OriginalJobs.{restores_first}
use Rattle.board_jobs.proofs.laws.restores_keep_original.Goals as goal

pub returns : goal.returns
returns g c = λ operation ranges bytes before after old new result file journal first is ends modelled sound read can.
    restores_first operation journal first old new modelled can bytes sound read ranges before (g.R.Store.state after)
    file is result ends
