use Rattle.std.proofs.Common.{refl, arith}
use Rattle.nor_buses.proofs.ReadsKeep.{read_keeps, read_stops, keeps_stops, on_err}
use Rattle.nor_buses.proofs.Polls.{fits_short}
use Rattle.nor_buses.proofs.status.CheckedStatus.read_id.Goals as goal

pub returns-in_err-pass-clause-stops : goal.returns-in_err-pass-clause-stops
returns-in_err-pass-clause-stops g c honest =
    on_err c.from_residual.result
    (read_stops refl (c.in_err-pass.ensures.law.stops (fits_short (omega arith) (omega arith) honest)))

pub returns-clause-stops : goal.returns-clause-stops
returns-clause-stops g c honest =
    rw c.stop.ensures.inside
    (keeps_stops (read_keeps refl (c.in_ok-pass.ensures.law.carries (fits_short (omega arith) (omega arith) honest))))
