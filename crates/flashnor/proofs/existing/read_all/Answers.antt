use Rattle.std.proofs.Common.{arith, inl, inr}
use Rattle.std.proofs.lemmas.Result.{err_from_is_err_and}
use Rattle.flashnor.proofs.Ended.{opens_starts}
use Rattle.flashnor.proofs.Sources.{task_fails}
use Rattle.flashnor.proofs.Traced.{keeps_read, view_apart}
use Rattle.flashnor.proofs.existing.read_all.Goals as goal

pub returns-in_err-_content-clause-fails : goal.returns-in_err-_content-clause-fails
returns-in_err-_content-clause-fails g c =
    let p = err_from_is_err_and c.from_residual.result c.from_residual.ensures.1 in
    rw (p.1, p.2) (inr (inl (opens_starts _ c.args.job.now _ c.in_err-_content.ensures.err)))

pub returns-in_err-_log-clause-fails : goal.returns-in_err-_log-clause-fails
returns-in_err-_log-clause-fails g c = grind arith

pub returns-in_err-_sources-clause-fails : goal.returns-in_err-_sources-clause-fails
returns-in_err-_sources-clause-fails g c =
    let p = err_from_is_err_and c.from_residual-in_err-_sources.result
    c.from_residual-in_err-_sources.ensures.1 in
    let made = c.create_trace.ensures in
    rw (p.1, p.2) (inr (inr (inr (inr (
      _,
      view_apart c.args.job.now.programmer.trace (g.R.Store.state c.args.rt.now)
          (g.R.Store.state c.create_trace.new.rt) made.nature made.others,
      task_fails _ _ _ c.in_err-_sources.ensures.err,
    )))))

pub returns-in_err-_sources-clause-others : goal.returns-in_err-_sources-clause-others
returns-in_err-_sources-clause-others g c =
    keeps_read c.args.job.now.programmer.trace (g.R.Store.state c.args.rt.now)
    (g.R.Store.state c.create_trace.new.rt) (g.R.Store.state c.read_sources.new.rt) c.create_trace.ensures.nature
    c.create_trace.ensures.others c.read_sources.ensures.same

pub returns-clause-others : goal.returns-clause-others
returns-clause-others g c =
    keeps_read c.args.job.now.programmer.trace (g.R.Store.state c.args.rt.now)
    (g.R.Store.state c.create_trace.new.rt) (g.R.Store.state c.read_sources.new.rt) c.create_trace.ensures.nature
    c.create_trace.ensures.others c.read_sources.ensures.same
