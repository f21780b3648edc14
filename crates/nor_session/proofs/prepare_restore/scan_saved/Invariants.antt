use Rattle.nor_session.proofs.Rescanned.{HasRescanned}
use Rattle.nor_session.proofs.prepare_restore.scan_saved.Given as goal

abbrev pub invariant-loop-i : goal.invariant-loop-i
invariant-loop-i g l = HasRescanned l.journal l.i (g.B.Bus.state l.fn.bus) (g.B.Bus.state l.bus) l.scanned
