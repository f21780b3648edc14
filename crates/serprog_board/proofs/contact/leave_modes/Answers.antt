use Rattle.serprog_board.proofs.Looking.{goes_on, looked}
use Rattle.serprog_board.proofs.contact.leave_modes.Goals as goal

pub returns-clause-looks : goal.returns-clause-looks
returns-clause-looks g c awaits was = goes_on (looked (c.in_ok-operate.ensures.looks awaits was)) c.operate-2.ensures.looks
