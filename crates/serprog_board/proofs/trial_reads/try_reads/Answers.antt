use Rattle.serprog_board.proofs.Looking.{fails, goes_on, looked}
use Rattle.serprog_board.proofs.trial_reads.try_reads.Goals as goal

pub returns-in_err-place-clause-looks : goal.returns-in_err-place-clause-looks
returns-in_err-place-clause-looks g c awaits was =
    let first = looked (c.in_ok-compare_overlaps.ensures.looks awaits was) in
    fails c.from_residual-in_err-place.result _ c.from_residual-in_err-place.ensures.1
    (goes_on first c.in_err-place.ensures.looks)

pub returns-clause-looks : goal.returns-clause-looks
returns-clause-looks g c awaits was =
    let first = looked (c.in_ok-compare_overlaps.ensures.looks awaits was) in
    let second = looked (goes_on first c.in_ok-place.ensures.looks) in
    goes_on second c.try_long_frame.ensures.looks
