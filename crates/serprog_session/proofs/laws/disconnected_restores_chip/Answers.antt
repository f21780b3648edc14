use Rattle.serprog_session.proofs.Over.{lost_from_chip}
use Rattle.serprog_session.proofs.laws.disconnected_restores_chip.Goals as goal

pub returns : goal.returns
returns c = lost_from_chip
