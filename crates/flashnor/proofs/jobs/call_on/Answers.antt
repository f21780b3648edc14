use Rattle.std.proofs.Common.{◌∙◌, inl, inr}
use Rattle.std.proofs.lemmas.Result.{IfErr-weaker, IfOk-weaker, err_from_is_err_and, on_err_weaker}
use Rattle.nor_console.proofs.Lent.{lawful_after}
use Rattle.flashnor.proofs.Sources.{task_fails}
use Rattle.flashnor.proofs.Traced.{keeps_called, keeps_read, makes_nothing_called, makes_nothing_read, nature_read}
use Rattle.flashnor.proofs.Traced.{unmade_traced, view_apart, view_read}
use Rattle.flashnor.proofs.jobs.call_on.Goals as goal

pub returns-in_err-log-clause-unmade : goal.returns-in_err-log-clause-unmade
returns-in_err-log-clause-unmade g c = λ is two.
    let p = err_from_is_err_and c.from_residual.result c.from_residual.ensures.1 in
    rw p.1 (unmade_traced c.args.job.now.programmer.trace _ (g.R.Store.state c.args.rt.now)
    (g.R.Store.state c.open_trace.new.rt) c.open_trace.ensures.others two)

pub returns-in_err-log-clause-err : goal.returns-in_err-log-clause-err
returns-in_err-log-clause-err g c =
    let p = err_from_is_err_and c.from_residual.result c.from_residual.ensures.1 in
    rw (p.1, p.2) (elim c.in_err-log.ensures.err [ inl trace ↦ inl trace | inr roles ↦ inr (inl roles) ])

pub returns-in_err-sources-clause-nature : goal.returns-in_err-sources-clause-nature
returns-in_err-sources-clause-nature g c =
    nature_read c.args.job.now.programmer.trace (g.R.Store.state c.args.rt.now)
    (g.R.Store.state c.open_trace.new.rt) (g.R.Store.state c.read_sources.new.rt) c.open_trace.ensures.nature
    c.open_trace.ensures.others c.read_sources.ensures.same

pub returns-in_err-sources-clause-others : goal.returns-in_err-sources-clause-others
returns-in_err-sources-clause-others g c = λ is name traced other.
    keeps_read c.args.job.now.programmer.trace (g.R.Store.state c.args.rt.now)
    (g.R.Store.state c.open_trace.new.rt) (g.R.Store.state c.read_sources.new.rt) c.open_trace.ensures.nature
    c.open_trace.ensures.others c.read_sources.ensures.same is name traced

pub returns-in_err-sources-clause-unmade : goal.returns-in_err-sources-clause-unmade
returns-in_err-sources-clause-unmade g c = λ is two.
    let p = err_from_is_err_and c.from_residual-in_err-sources.result c.from_residual-in_err-sources.ensures.1 in
    rw p.1 (makes_nothing_read c.args.job.now.programmer.trace (g.R.Store.state c.args.rt.now)
    (g.R.Store.state c.open_trace.new.rt) (g.R.Store.state c.read_sources.new.rt) c.open_trace.ensures.nature
    c.open_trace.ensures.others c.read_sources.ensures.same _ two)

pub returns-in_err-sources-clause-err : goal.returns-in_err-sources-clause-err
returns-in_err-sources-clause-err g c =
    let p = err_from_is_err_and c.from_residual-in_err-sources.result c.from_residual-in_err-sources.ensures.1 in
    rw (p.1, p.2) (inr (inr (
      (g.R.Store.state c.open_trace.new.rt).view,
      view_apart c.args.job.now.programmer.trace (g.R.Store.state c.args.rt.now)
          (g.R.Store.state c.open_trace.new.rt) c.open_trace.ensures.nature c.open_trace.ensures.others,
      task_fails _ _ _ c.in_err-sources.ensures.err,
    )))

pub call-requires : goal.call-requires
call-requires g c = rw c.read_sources.ensures.same.view c.in_ok-sources.ensures.ok

pub returns : goal.returns
returns g c =
    let trace = c.args.job.now.programmer.trace in
    let s0 = g.R.Store.state c.args.rt.now in
    let s1 = g.R.Store.state c.open_trace.new.rt in
    let s2 = g.R.Store.state c.read_sources.new.rt in
    let s3 = g.R.Store.state c.call.new.rt in
    let opened = c.open_trace.ensures in
    let same = c.read_sources.ensures.same in
    let nature = nature_read trace s0 s1 s2 opened.nature opened.others same in
    let view = view_read trace s0 s1 s2 opened.nature opened.others same in
    let called = c.call.ensures in
    record {
      nature = called.nature ∙ nature;
      others = keeps_called trace s0 s1 s2 opened.nature opened.others same s3 _ called.others;
      unmade = λ is two. on_err_weaker c.call.result
          (makes_nothing_called trace s0 s1 s2 opened.nature opened.others same s3 _ two)
          (called.unmade (lawful_after nature is));
      ok = IfOk-weaker c.call.result _ _ (λ outcome does. (c.start-bus.result, c.start-bus.ensures, (s2.view, view, does)))
          (called.ok c.start-bus.ensures.opens.ready);
      lost = called.lost;
      err = IfErr-weaker c.call.result _ _ (λ fault fails. inr (inr (s2.view, view, fails))) called.err;
    }
