use Rattle.std.proofs.Common.{Err, refl}
use Rattle.std.proofs.lemmas.Result.{err_from_is_err_and}
use Rattle.nor_jobs.proofs.restoring.restore_differing.Goals as goal

pub returns-in_err-report : goal.returns-in_err-report
returns-in_err-report g c =
    let p = err_from_is_err_and c.from_residual.result c.from_residual.ensures.1 in
    rw (p.1, p.2) (record {
      result = Err _;
      restores_original = c.in_err-report.ensures.restores_original;
      always = c.in_err-report.ensures.always;
      honest = c.in_err-report.ensures.honest;
      modelled = c.in_err-report.ensures.modelled;
      thorough = λ same. tt;
      returned = refl;
    })
