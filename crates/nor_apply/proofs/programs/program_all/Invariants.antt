use Rattle.nor_plan.specs.SectorSet.{has}
use Rattle.nor_apply.proofs.ProgrammingWhole.{SectorsSoFar}
use Rattle.nor_apply.proofs.programs.program_all.Given as goal

abbrev pub invariant-loop-sector : goal.invariant-loop-sector
invariant-loop-sector g l =
    SectorsSoFar (has l.fn.touched) (has l.fn.raised) (g.S.Source.wanted l.fn.source) l.sector
    (g.B.Bus.state l.fn.bus) (g.B.Bus.state l.bus) l.tally
