use Rattle.std.proofs.Common.{rules}
use Rattle.nor_buses.proofs.Adapted.{replies_same}
use Rattle.nor_buses.proofs.SomeChips.{transfers_only}
use Rattle.nor_buses.proofs.other_makers.OtherMakersBus.transfer.Goals as goal

pub returns-in-Ok-clause-law : goal.returns-in-Ok-clause-law
returns-in-Ok-clause-law g c =
    transfers_only _ c.carry.ensures.nature
    (λ honest. replies_same c.carry.ensures.rows (c.carry.ensures.nature.config honest))
    c.in-Ok.ensures.stops c.in-Ok.ensures.steps (search rules)

pub returns-in-Err-clause-law : goal.returns-in-Err-clause-law
returns-in-Err-clause-law g c =
    transfers_only _ c.carry.ensures.nature
    (λ honest. replies_same c.carry.ensures.rows (c.carry.ensures.nature.config honest))
    c.in-Err.ensures.stops c.in-Err.ensures.steps (search rules)
