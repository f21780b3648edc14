use Rattle.nor_serprog.proofs.Skipped.{Skips}
use Rattle.nor_serprog.proofs.skipping.skip_past.Given as goal

abbrev pub invariant-loop-received : goal.invariant-loop-received
invariant-loop-received g l = Skips l.wanted l.last l.received (g.P.Port.state l.fn.port) (g.P.Port.state l.port)
