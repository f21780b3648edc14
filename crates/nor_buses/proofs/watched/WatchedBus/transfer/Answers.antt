use Rattle.std.proofs.Common.{rules}
use Rattle.nor_buses.proofs.Around.{transfers_unsteady}
use Rattle.nor_buses.proofs.watched.WatchedBus.transfer.Goals as goal

pub returns-in-Ok-clause-law : goal.returns-in-Ok-clause-law
returns-in-Ok-clause-law g c =
    transfers_unsteady _ c.carry.ensures.nature c.in-Ok.ensures.at_stop c.in-Ok.ensures.steps (search rules)

pub returns-in-Err-clause-law : goal.returns-in-Err-clause-law
returns-in-Err-clause-law g c =
    transfers_unsteady _ c.carry.ensures.nature c.in-Err.ensures.at_stop c.in-Err.ensures.steps (search rules)
