use Rattle.std.proofs.Common.{rules}
use Rattle.nor_buses.proofs.Around.{transfers_around}
use Rattle.nor_buses.proofs.twice.ReadTwiceBus.transfer.Goals as goal

pub returns-in-Err-clause-law : goal.returns-in-Err-clause-law
returns-in-Err-clause-law g c =
    transfers_around _ c.carry.ensures.nature c.in-Err.ensures.stops c.in-Err.ensures.steps
    (search rules)
