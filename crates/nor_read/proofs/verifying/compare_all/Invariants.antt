use Rattle.std.specs.Prelude.{option_copied}
use Rattle.nor_read.specs.Verifying.{ComparesBelow}
use Rattle.nor_read.proofs.verifying.compare_all.Given as goal

abbrev pub invariant-loop-sector : goal.invariant-loop-sector
invariant-loop-sector g l =
    ComparesBelow (option_copied l.fn.included) l.fn.image l.fn.size l.sector (g.B.Bus.state l.fn.bus)
    (g.B.Bus.state l.bus) (record { first = l.first; reads = l.reads })
