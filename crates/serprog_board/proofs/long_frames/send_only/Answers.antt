use Rattle.serprog_board.proofs.Looking.{goes_on, mapped, passed}
use Rattle.serprog_board.proofs.long_frames.send_only.Goals as goal

pub returns-clause-looks : goal.returns-clause-looks
returns-clause-looks g c awaits whole =
    let first = passed c.in_ok-map_err.ensures.variant (c.synchronize.ensures.looks awaits whole) in
    mapped c.map_err-2.ensures.variant (goes_on first c.operate.ensures.looks)
