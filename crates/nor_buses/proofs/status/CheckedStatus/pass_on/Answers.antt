use Rattle.nor_buses.proofs.ReadsKeep.{stops_at, on_err}
use Rattle.nor_buses.proofs.status.CheckedStatus.pass_on.Goals as goal

pub returns-in_err-read_id-in-159-eq3-clause-stops : goal.returns-in_err-read_id-in-159-eq3-clause-stops
returns-in_err-read_id-in-159-eq3-clause-stops g c honest =
    on_err c.from_residual.result (stops_at (c.in_err-read_id-in-159-eq3.ensures.stops honest.honest))
