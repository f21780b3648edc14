use Rattle.serprog_board.proofs.Looking.{fails, goes_on, looked, returns_any}
use Rattle.serprog_board.proofs.long_frames.is_telling.Goals as goal

pub returns-in_err-read-2-clause-looks : goal.returns-in_err-read-2-clause-looks
returns-in_err-read-2-clause-looks g c awaits was =
    fails c.from_residual-in_err-read-2.result _ c.from_residual-in_err-read-2.ensures.1
    (goes_on (looked (c.in_ok-read.ensures.looks awaits was)) c.in_err-read-2.ensures.looks)

pub returns-clause-looks : goal.returns-clause-looks
returns-clause-looks g c awaits was =
    returns_any _ (looked (goes_on (looked (c.in_ok-read.ensures.looks awaits was)) c.in_ok-read-2.ensures.looks))
