use Rattle.std.proofs.Common.{refl, arith}
use Rattle.nor_buses.proofs.ReadsKeep.{read_keeps, read_stops, on_err}
use Rattle.nor_buses.proofs.Polls.{fits_short}
use Rattle.nor_buses.proofs.known_status2.KnownStatus2.find_out.Goals as goal

pub returns-in_err-transfer-clause-stops : goal.returns-in_err-transfer-clause-stops
returns-in_err-transfer-clause-stops g c honest =
    on_err c.from_residual.result
    (read_stops refl (c.in_err-transfer.ensures.stops (fits_short (omega arith) (omega arith) honest)))

pub returns-in_ok-transfer-clause-keeps : goal.returns-in_ok-transfer-clause-keeps
returns-in_ok-transfer-clause-keeps g c honest =
    read_keeps refl (c.in_ok-transfer.ensures.carries (fits_short (omega arith) (omega arith) honest))
