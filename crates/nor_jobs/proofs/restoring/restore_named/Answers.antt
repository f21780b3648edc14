use Rattle.std.proofs.Common.{inl, inr, refl}
use Rattle.std.proofs.lemmas.Result.{err_from_is_err_and}
use Rattle.nor_jobs.proofs.restoring.restore_named.Goals as goal

pub returns-in_err-check_name : goal.returns-in_err-check_name
returns-in_err-check_name g c =
    let p = err_from_is_err_and c.from_residual.result c.from_residual.ensures.1 in
    rw (p.1, p.2) (inr (_, c.in_err-check_name.ensures.err, refl))

pub returns : goal.returns
returns g c = inl (record {
  found = g.B.Bus.state c.check_name.new.bus;
  first = c.in_ok-check_name.ensures.ok;
  ran = c.run_restore.ensures;
})
