use Rattle.nor_buses.proofs.ReadsKeep.{keeps_stops}
use Rattle.nor_buses.proofs.Polls.{second_keeps}
use Rattle.nor_buses.proofs.status.CheckedStatus.read_back.Goals as goal

pub returns-then-not-are_same-clause-stops : goal.returns-then-not-are_same-clause-stops
returns-then-not-are_same-clause-stops g c honest =
    rw c.stop.ensures.inside (keeps_stops (second_keeps (c.in_ok-two.ensures.steps honest)))
