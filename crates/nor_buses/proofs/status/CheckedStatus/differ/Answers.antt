use Rattle.nor_buses.proofs.ReadsKeep.{keeps_stops}
use Rattle.nor_buses.proofs.Polls.{quiet_id}
use Rattle.nor_buses.proofs.status.CheckedStatus.differ.Goals as goal

pub returns-in-Ok-clause-stops : goal.returns-in-Ok-clause-stops
returns-in-Ok-clause-stops g c honest =
    rw c.stop.ensures.inside (keeps_stops (quiet_id c.read_id.ensures.nature (c.in-Ok.ensures.steps honest)).keeps)
