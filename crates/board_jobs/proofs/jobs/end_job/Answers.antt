use Rattle.std.proofs.lemmas.Result.{err_from_is_err_and}
use Rattle.board_jobs.proofs.Sent.{does_ends, ends_sends, fails_ends}
use Rattle.board_jobs.proofs.jobs.end_job.Goals as goal

pub returns-in_err-outcome-clause-ends : goal.returns-in_err-outcome-clause-ends
returns-in_err-outcome-clause-ends g c =
    let p = err_from_is_err_and c.from_residual.result c.from_residual.ensures.1 in
    rw (p.1, p.2) (fails_ends c.args.operation.now _ _ _ _ _ _ _ c.in_err-outcome.ensures.err)

pub returns-in_err-outcome-clause-sends : goal.returns-in_err-outcome-clause-sends
returns-in_err-outcome-clause-sends g c = ends_sends c.args.operation.now c.args.sources.included
    c.args.sources.bytes.items (g.R.Store.state c.args.files.now).view (g.R.Store.state c.perform.new.rt)
    (g.B.Bus.state c.args.bus.now) (g.B.Bus.state c.perform.new.bus) c.from_residual.result
    (returns-in_err-outcome-clause-ends g c)

pub returns-clause-ends : goal.returns-clause-ends
returns-clause-ends g c =
    does_ends c.args.operation.now _ _ _ _ _ _ _ _ c.end_call.ensures c.in_ok-outcome.ensures.ok

pub returns-clause-sends : goal.returns-clause-sends
returns-clause-sends g c = ends_sends c.args.operation.now _ _ _ _ _ _ _
    (does_ends c.args.operation.now _ _ _ _ _ _ _ _ c.end_call.ensures c.in_ok-outcome.ensures.ok)
