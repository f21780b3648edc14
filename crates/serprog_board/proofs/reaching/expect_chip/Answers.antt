use Rattle.serprog_board.proofs.Looking.{fails, passed, returns_any}
use Rattle.serprog_board.proofs.reaching.expect_chip.Goals as goal

pub returns-in_err-map_err-clause-looks : goal.returns-in_err-map_err-clause-looks
returns-in_err-map_err-clause-looks g c awaits was =
    fails c.from_residual.result _ c.from_residual.ensures.1 (c.look_for_chip.ensures.looks awaits was)

pub returns-in-Present-clause-looks : goal.returns-in-Present-clause-looks
returns-in-Present-clause-looks g c awaits was =
    returns_any _ (passed c.in_ok-map_err.ensures.variant (c.look_for_chip.ensures.looks awaits was))

pub returns-in-Missing-clause-looks : goal.returns-in-Missing-clause-looks
returns-in-Missing-clause-looks g c awaits was =
    returns_any _ (passed c.in_ok-map_err.ensures.variant (c.look_for_chip.ensures.looks awaits was))

pub returns-in-NoStatus-clause-looks : goal.returns-in-NoStatus-clause-looks
returns-in-NoStatus-clause-looks g c awaits was =
    returns_any _ (passed c.in_ok-map_err.ensures.variant (c.look_for_chip.ensures.looks awaits was))
