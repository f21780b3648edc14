use Rattle.nor_buses.proofs.Pauses.{wait_lasts, wait_ends}
use Rattle.nor_buses.proofs.paced.Paced.new.Goals as goal

pub returns-clause-lasts : goal.returns-clause-lasts
returns-clause-lasts g c typical elapsed = wait_lasts typical elapsed

pub returns-clause-ends : goal.returns-clause-ends
returns-clause-ends g c typical elapsed h = wait_ends typical elapsed h
