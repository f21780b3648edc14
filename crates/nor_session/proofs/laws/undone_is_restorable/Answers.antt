use Rattle.nor_session.proofs.InTurn as in_turn
use Rattle.nor_session.proofs.laws.undone_is_restorable.Goals as goal

pub returns : goal.returns
returns c = in_turn.later_undone
