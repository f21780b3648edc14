use Rattle.std.proofs.Common.{Err, refl}
use Rattle.std.proofs.lemmas.Result.{err_from_is_err_and}
use Rattle.nor_jobs.proofs.finding.identify_chip.Goals as goal

pub returns-in_err-probe : goal.returns-in_err-probe
returns-in_err-probe g c =
    let p = err_from_is_err_and c.from_residual.result c.from_residual.ensures.1 in
    rw (p.1, p.2) (record {
      probed = Err _;
      always = c.in_err-probe.ensures.always;
      honest = c.in_err-probe.ensures.honest;
      modelled = c.in_err-probe.ensures.modelled;
      returned = refl;
    })
