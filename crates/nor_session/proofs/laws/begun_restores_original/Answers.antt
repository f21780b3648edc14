use Rattle.nor_session.proofs.BegunRestore as begun
use Rattle.nor_session.proofs.laws.begun_restores_original.Goals as goal

pub returns : goal.returns
returns c = begun.begun_restores
