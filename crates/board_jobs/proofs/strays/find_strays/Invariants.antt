use Rattle.board_jobs.specs.Looked.{HasOnlyLooked}
use Rattle.board_jobs.proofs.strays.find_strays.Given as goal

abbrev pub invariant-loop-sector : goal.invariant-loop-sector
invariant-loop-sector g l = HasOnlyLooked (g.B.Bus.state l.fn.bus) (g.B.Bus.state l.bus)
