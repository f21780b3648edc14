use Rattle.nor_chip.proofs.Page.{ClearsFrom}
use Rattle.nor_chip.proofs.sim.cells.clear_bits.Given as goal

abbrev pub invariant-loop-i : goal.invariant-loop-i
invariant-loop-i l = ClearsFrom l.from l.i l.sent l.fn.bytes l.bytes
