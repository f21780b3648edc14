use Rattle.nor_session.proofs.InTurn as in_turn
use Rattle.nor_session.proofs.laws.session_can_be_rewritten.Goals as goal

pub returns : goal.returns
returns c = in_turn.left_rewritable
