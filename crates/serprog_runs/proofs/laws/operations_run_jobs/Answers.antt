use Rattle.serprog_runs.proofs.Undone.{job_of}
use Rattle.serprog_runs.proofs.laws.operations_run_jobs.Goals as goal

pub returns : goal.returns
returns g c = λ files after name operation device last out out' status run none.
    job_of operation run.regions run.ranges run.bytes run.made (g.R.Store.state after) _ last out out' status
    operation.srp0 run.ran none
