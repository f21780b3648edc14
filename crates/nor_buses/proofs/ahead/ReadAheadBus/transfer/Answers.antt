use Rattle.std.proofs.Common.{rules}
use Rattle.nor_buses.proofs.HeldData.{transfers_ahead}
use Rattle.nor_buses.proofs.ahead.ReadAheadBus.transfer.Goals as goal

pub returns-in-Ok-clause-law : goal.returns-in-Ok-clause-law
returns-in-Ok-clause-law g c =
    transfers_ahead _ _ _ _ _ _ _ _ _ _ c.carry.ensures.longest c.carry.ensures.nature c.in-Ok.ensures.stops
    c.in-Ok.ensures.steps (search rules)

pub returns-in-Err-clause-law : goal.returns-in-Err-clause-law
returns-in-Err-clause-law g c =
    transfers_ahead _ _ _ _ _ _ _ _ _ _ c.carry.ensures.longest c.carry.ensures.nature c.in-Err.ensures.stops
    c.in-Err.ensures.steps (search rules)
