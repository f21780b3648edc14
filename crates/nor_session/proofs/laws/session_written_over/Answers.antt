use Rattle.nor_session.proofs.WrittenBack as over
use Rattle.nor_session.proofs.laws.session_written_over.Goals as goal

pub returns : goal.returns
returns c = over.session_over
