use Rattle.std.proofs.Common.{arith}
use Rattle.nor_buses.proofs.ReadsKeep.{step_of, on_err}
use Rattle.nor_buses.proofs.Polls.{fits_short, quiet_second, quiet_id, quiet_then, still_honest, behind, second_stops}
use Rattle.nor_buses.proofs.status.CheckedStatus.second_twice.Goals as goal

pub returns-in_err-pass-clause-stops : goal.returns-in_err-pass-clause-stops
returns-in_err-pass-clause-stops g c honest =
    on_err c.from_residual.result
    (second_stops (c.in_err-pass.ensures.law.stops (fits_short (omega arith) (omega arith) honest)).at_stop)

pub returns-in_err-read_id-clause-stops : goal.returns-in_err-read_id-clause-stops
returns-in_err-read_id-clause-stops g c honest =
    let first = quiet_second c.pass.ensures.law.nature
    (step_of (c.in_ok-pass.ensures.law.carries (fits_short (omega arith) (omega arith) honest))) in
    on_err c.from_residual-in_err-read_id.result
    (behind first (c.in_err-read_id.ensures.stops (still_honest first honest)))

pub returns-in_err-pass-2-clause-stops : goal.returns-in_err-pass-2-clause-stops
returns-in_err-pass-2-clause-stops g c honest =
    let first = quiet_second c.pass.ensures.law.nature
    (step_of (c.in_ok-pass.ensures.law.carries (fits_short (omega arith) (omega arith) honest))) in
    let second = quiet_then first
    (quiet_id c.read_id.ensures.nature (c.in_ok-read_id.ensures.steps (still_honest first honest))) in
    on_err c.from_residual-in_err-pass-2.result
    (behind second (second_stops
    (c.in_err-pass-2.ensures.law.stops (fits_short (omega arith) (omega arith) (still_honest second honest))).at_stop))

pub returns-then-ne-clause-stops : goal.returns-then-ne-clause-stops
returns-then-ne-clause-stops g c honest =
    let first = quiet_second c.pass.ensures.law.nature
    (step_of (c.in_ok-pass.ensures.law.carries (fits_short (omega arith) (omega arith) honest))) in
    let second = quiet_then first
    (quiet_id c.read_id.ensures.nature (c.in_ok-read_id.ensures.steps (still_honest first honest))) in
    let third = quiet_then second (quiet_second c.pass-2.ensures.law.nature
    (step_of (c.in_ok-pass-2.ensures.law.carries
    (fits_short (omega arith) (omega arith) (still_honest second honest))))) in
    behind third (c.differ.ensures.stops (still_honest third honest))

pub returns-in_err-read_id-2-clause-stops : goal.returns-in_err-read_id-2-clause-stops
returns-in_err-read_id-2-clause-stops g c honest =
    let first = quiet_second c.pass.ensures.law.nature
    (step_of (c.in_ok-pass.ensures.law.carries (fits_short (omega arith) (omega arith) honest))) in
    let second = quiet_then first
    (quiet_id c.read_id.ensures.nature (c.in_ok-read_id.ensures.steps (still_honest first honest))) in
    let third = quiet_then second (quiet_second c.pass-2.ensures.law.nature
    (step_of (c.in_ok-pass-2.ensures.law.carries
    (fits_short (omega arith) (omega arith) (still_honest second honest))))) in
    on_err c.from_residual-in_err-read_id-2.result
    (behind third (c.in_err-read_id-2.ensures.stops (still_honest third honest)))
