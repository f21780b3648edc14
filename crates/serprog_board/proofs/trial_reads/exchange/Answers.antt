use Rattle.serprog_board.proofs.Looking.{mapped}
use Rattle.serprog_board.proofs.trial_reads.exchange.Goals as goal

pub returns-clause-looks : goal.returns-clause-looks
returns-clause-looks g c awaits was = mapped c.map_err.ensures.variant (c.operate.ensures.looks awaits was)
