use Rattle.nor_session.proofs.WrittenBack as over
use Rattle.nor_session.proofs.laws.same_written_over.Goals as goal

pub returns : goal.returns
returns c = over.same_over
