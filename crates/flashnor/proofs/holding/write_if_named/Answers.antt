use Rattle.std.proofs.Common.{arith}
use Rattle.flashnor.proofs.holding.write_if_named.Goals as goal
use Rattle.flashnor.proofs.holding.write_if_named.Goals.{else-there, then-there}

pub returns-in-Ok-clause-others : goal.returns-in-Ok-clause-others
returns-in-Ok-clause-others g c = grind arith

pub returns-in-Err-clause-others : goal.returns-in-Err-clause-others
returns-in-Err-clause-others g c = grind arith

pub returns-in-Err-clause-amid : goal.returns-in-Err-clause-amid
returns-in-Err-clause-amid g c = λ had ready.
    elim c.if-there.branch [
      | then-there w ↦ rw (c.in_ok-name.was, w.if-there.true, w.rt-is)
          (w.write_over-put.ensures.amid had (rw (c.in_ok-name.was, w.if-there.true) at ready))
      | else-there w ↦ rw (c.in_ok-name.was, w.if-there.false, w.rt-is)
          (w.make_with-put.ensures.amid had (rw (c.in_ok-name.was, w.if-there.false) at ready))
    ]
