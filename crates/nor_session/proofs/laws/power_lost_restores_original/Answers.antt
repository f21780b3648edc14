use Rattle.nor_session.proofs.InTurn as in_turn
use Rattle.nor_session.proofs.laws.power_lost_restores_original.Goals as goal

pub returns : goal.returns
returns c = in_turn.lost_can_restore
