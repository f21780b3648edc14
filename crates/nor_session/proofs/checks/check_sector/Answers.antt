use Rattle.std.proofs.Common.{◌∙◌, refl, arith}
use Rattle.std.proofs.lemmas.Result.{err_from_is_err_and}
use Rattle.nor_driver.proofs.RestsInTurn.{has_only_read-one}
use Rattle.nor_session.proofs.CheckingSteps.{agrees, differs, stops, read_whole}
use Rattle.nor_apply.proofs.Alone.{only-here}
use Rattle.nor_session.proofs.checks.check_sector.Goals as goal

pub returns-in_err-read_sector-clause-replies : goal.returns-in_err-read_sector-clause-replies
returns-in_err-read_sector-clause-replies g c =
    let p = err_from_is_err_and c.from_residual.result c.from_residual.ensures.1 in rw (p.1, p.2) tt

pub returns-in-None-clause-replies : goal.returns-in-None-clause-replies
returns-in-None-clause-replies g c =
    read_whole c.in_ok-read_sector.ensures.does (omega (arith, c.read_sector.auto.bytes)) c.in-None.ensures.none

pub returns-in-Some-clause-replies : goal.returns-in-Some-clause-replies
returns-in-Some-clause-replies g c = (
  _,
  refl,
  read_whole c.in_ok-read_sector.ensures.does (omega (arith, c.read_sector.auto.bytes)) c.in-Some.ensures.first,
)

pub returns-in_err-read_sector-clause-errors : goal.returns-in_err-read_sector-clause-errors
returns-in_err-read_sector-clause-errors g c =
    let p = err_from_is_err_and c.from_residual.result c.from_residual.ensures.1 in
    rw (p.1, p.2) (stops c.args.wanted.now c.requires.reachable c.in_err-read_sector.ensures.fails)

pub returns-in-None-clause-does : goal.returns-in-None-clause-does
returns-in-None-clause-does g c =
    agrees (omega (arith, c.read_sector.auto.bytes)) c.in_ok-read_sector.ensures.does c.args.wanted.now
    c.requires.reachable
    (has_only_read-one c.read_sector.ensures.leaves c.in_ok-read_sector.ensures.does.read
    (λ ready. c.read_sector.ensures.polled_ready ∙ ready)) c.in-None.ensures.none

pub returns-in-Some-clause-errors : goal.returns-in-Some-clause-errors
returns-in-Some-clause-errors g c =
    differs (omega (arith, c.read_sector.auto.bytes)) c.in_ok-read_sector.ensures.does c.args.wanted.now
    c.in-Some.ensures.first

pub returns-in-Some-clause-names : goal.returns-in-Some-clause-names
returns-in-Some-clause-names g c = only-here (omega (arith, c.read_sector.auto.bytes, c.in-Some.ensures.first.within))
