use Rattle.nor_plan.specs.SectorSet.{has}
use Rattle.nor_plan.proofs.Words.{none-set}
use Rattle.nor_plan.proofs.set.SectorSet.new.Goals as goal

pub returns : goal.returns
unfolding has
returns c = none-set
