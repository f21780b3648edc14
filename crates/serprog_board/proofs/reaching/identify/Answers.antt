use Rattle.serprog_board.proofs.Looking.{identified_looks, fails, passed, returns_any}
use Rattle.serprog_board.proofs.reaching.identify.Goals as goal

pub returns-in_err-programmer-clause-looks : goal.returns-in_err-programmer-clause-looks
returns-in_err-programmer-clause-looks g c awaits whole =
    fails c.from_residual.result _ c.from_residual.ensures.1
    (identified_looks g.P.Port.state 58 _ _ c.identify.result c.args.link.now c.identify.new.link
    c.identify.ensures.in_step (c.identify.ensures.identifies awaits whole))

pub returns-then-most-lt-UNIQUE_LEN-clause-looks : goal.returns-then-most-lt-UNIQUE_LEN-clause-looks
returns-then-most-lt-UNIQUE_LEN-clause-looks g c awaits whole =
    returns_any _
    (passed c.in_ok-programmer.ensures.variant
    (identified_looks g.P.Port.state 58 _ _ c.identify.result c.args.link.now c.identify.new.link
    c.identify.ensures.in_step (c.identify.ensures.identifies awaits whole)))

pub returns-else-most-lt-UNIQUE_LEN-clause-looks : goal.returns-else-most-lt-UNIQUE_LEN-clause-looks
returns-else-most-lt-UNIQUE_LEN-clause-looks g c awaits whole =
    returns_any _
    (passed c.in_ok-programmer.ensures.variant
    (identified_looks g.P.Port.state 58 _ _ c.identify.result c.args.link.now c.identify.new.link
    c.identify.ensures.in_step (c.identify.ensures.identifies awaits whole)))
