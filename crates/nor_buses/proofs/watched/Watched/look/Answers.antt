use Rattle.std.proofs.Common.{refl, arith}
use Rattle.nor_buses.proofs.ReadsKeep.{read_keeps, read_stops, keeps_stops, on_err}
use Rattle.nor_buses.proofs.Polls.{fits_short}
use Rattle.nor_buses.proofs.watched.Watched.look.Goals as goal

pub returns-in_err-transfer-clause-stops : goal.returns-in_err-transfer-clause-stops
returns-in_err-transfer-clause-stops g c honest =
    on_err c.from_residual.result
    (read_stops refl (c.in_err-transfer.ensures.stops (fits_short (omega arith) (omega arith) honest)))

pub returns-then-eq-clause-stops : goal.returns-then-eq-clause-stops
returns-then-eq-clause-stops g c honest =
    keeps_stops (read_keeps refl (c.in_ok-transfer.ensures.carries (fits_short (omega arith) (omega arith) honest)))
