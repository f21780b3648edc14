use Rattle.nor_plan.specs.SectorSet.{has}
use Rattle.nor_session.proofs.CheckingSteps.{HasChecked}
use Rattle.nor_session.proofs.checks.check_all.Given as goal

abbrev pub invariant-loop-sector : goal.invariant-loop-sector
invariant-loop-sector g l =
    HasChecked (has l.fn.touched) (g.S.Source.wanted l.fn.source) l.sector (g.B.Bus.state l.fn.bus)
    (g.B.Bus.state l.bus) l.sent
