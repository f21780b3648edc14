use Rattle.nor_buses.proofs.ReadsKeep.{step_of}
use Rattle.nor_buses.proofs.SomeChips.{fits_only}
use Rattle.nor_buses.proofs.other_makers.OtherMakers.carry.Goals as goal

pub returns-clause-steps : goal.returns-clause-steps
returns-clause-steps g c fits =
    rw c.remember.ensures.bus (step_of (c.in_ok-transfer.ensures.carries (fits_only _ _ fits)))
