use Rattle.std.proofs.Common.{◌≡◌}
use Rattle.nor_plan.specs.SectorSet.{has}
use Rattle.nor_plan.specs.Planned.{planned_from}
use Rattle.nor_plan.proofs.erase.next_erase.Given as goal

-- The erases planned from the loop's sector on are all erases planned from the function's argument `from` on.
abbrev pub invariant-loop-sector : goal.invariant-loop-sector
invariant-loop-sector l = planned_from l.fn.whole l.fn.kinds (has l.fn.set) l.sector ≡ planned_from l.fn.whole l.fn.kinds (has l.fn.set) l.fn.from
