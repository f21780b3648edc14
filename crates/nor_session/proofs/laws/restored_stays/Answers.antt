use Rattle.nor_session.proofs.InTurn as in_turn
use Rattle.nor_session.proofs.laws.restored_stays.Goals as goal

pub returns : goal.returns
returns c = in_turn.changes_nothing
