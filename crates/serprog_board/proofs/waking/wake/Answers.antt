use Rattle.std.proofs.Common.{refl}
use Rattle.serprog_board.proofs.Looking.{fails, goes_on, passed, returns_any}
use Rattle.serprog_board.proofs.waking.wake.Goals as goal

pub returns-in_err-map_err-3-clause-looks : goal.returns-in_err-map_err-3-clause-looks
returns-in_err-map_err-3-clause-looks g c awaits was =
    fails c.from_residual-in_err-map_err-3.result _ c.from_residual-in_err-map_err-3.ensures.1
    (goes_on (passed c.in_ok-map_err-2.ensures.variant (c.exchange-2.ensures.looks awaits was (refl, refl)))
    (λ still then. c.exchange-3.ensures.looks still then refl))

pub returns-then-ne-clause-looks : goal.returns-then-ne-clause-looks
returns-then-ne-clause-looks g c awaits was =
    returns_any _
    (passed c.in_ok-map_err-3.ensures.variant
    (goes_on (passed c.in_ok-map_err-2.ensures.variant (c.exchange-2.ensures.looks awaits was (refl, refl)))
    (λ still then. c.exchange-3.ensures.looks still then refl)))

pub returns-clause-looks : goal.returns-clause-looks
returns-clause-looks g c awaits was =
    returns_any _
    (passed c.in_ok-map_err-3.ensures.variant
    (goes_on (passed c.in_ok-map_err-2.ensures.variant (c.exchange-2.ensures.looks awaits was (refl, refl)))
    (λ still then. c.exchange-3.ensures.looks still then refl)))
