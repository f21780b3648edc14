use Rattle.serprog_session.proofs.Over.{read_from}
use Rattle.serprog_session.proofs.laws.read_restores_chip.Goals as goal

pub returns : goal.returns
returns c = read_from
