use Rattle.nor_plan.specs.Erases.{erases_left}
use Rattle.nor_plan.specs.SectorSet.{has}
use Rattle.nor_apply.proofs.ErasingExits.{ErasesSoFar}
use Rattle.nor_apply.proofs.erases.erase_all.Given as goal

abbrev pub invariant-loop-unit : goal.invariant-loop-unit
invariant-loop-unit g l =
    ErasesSoFar l.fn.kinds l.fn.size (has l.fn.raised) l.yielded (erases_left l.unit-iterator)
    (g.B.Bus.state l.fn.bus) (g.B.Bus.state l.bus) l.tally
