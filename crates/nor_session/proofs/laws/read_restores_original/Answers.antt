use Rattle.nor_session.proofs.WrittenBack as over
use Rattle.nor_session.proofs.laws.read_restores_original.Goals as goal

pub returns : goal.returns
returns c = over.read_back
