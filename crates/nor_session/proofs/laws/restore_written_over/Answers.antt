use Rattle.nor_session.proofs.WrittenBack as over
use Rattle.nor_session.proofs.laws.restore_written_over.Goals as goal

pub returns : goal.returns
returns c = over.restore_over
