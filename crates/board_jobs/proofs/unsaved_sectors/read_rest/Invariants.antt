use Rattle.board_jobs.proofs.RestRead.{HasReadUp}
use Rattle.board_jobs.proofs.unsaved_sectors.read_rest.Given as goal

abbrev pub invariant-loop-sector : goal.invariant-loop-sector
invariant-loop-sector g l = HasReadUp l.fn.journal l.sector l.bytes (g.B.Bus.state l.fn.bus) (g.B.Bus.state l.bus)
