use Rattle.std.proofs.Common.{refl, arith, rules}
use Rattle.nor_buses.proofs.Adapted.{id_read}
use Rattle.nor_buses.proofs.ReadsKeep.{read_stops, on_err}
use Rattle.nor_buses.proofs.Polls.{fits_short}
use Rattle.nor_buses.proofs.other_makers.OtherMakers.read_id.Goals as goal

pub returns-in_err-transfer-clause-stops : goal.returns-in_err-transfer-clause-stops
returns-in_err-transfer-clause-stops g c honest =
    on_err c.from_residual.result
    (read_stops refl (c.in_err-transfer.ensures.stops (fits_short (omega arith) (omega arith) honest)))

pub returns-clause-id : goal.returns-clause-id
returns-clause-id g c =
    id_read c.transfer.new.reply _ _ (search rules)
    (λ honest. c.in_ok-transfer.ensures.carries (fits_short (omega arith) (omega arith) honest))
