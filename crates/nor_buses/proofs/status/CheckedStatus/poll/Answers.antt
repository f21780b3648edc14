use Rattle.std.proofs.Common.{◌≡◌, arith}
use Rattle.std.specs.Prelude.{◌%◌}
use Rattle.std.proofs.lemmas.Grind.{common_steps}
use Rattle.nor_buses.proofs.ReadsKeep.{stops_at, on_err}
use Rattle.nor_buses.proofs.Polls.{ready_shown, quiet_poll, still_honest, behind}
use Rattle.nor_buses.proofs.status.CheckedStatus.poll.Goals as goal

pub returns-in_err-read_back-clause-stops : goal.returns-in_err-read_back-clause-stops
returns-in_err-read_back-clause-stops g c honest =
    let made = c.in_ok-status.ensures.steps honest in
    let even : c.in_ok-status.status % 2 ≡ 0 = grind (arith, common_steps, c.if-status-ne0.false) in
    let first = quiet_poll c.poll_twice.ensures.nature (ready_shown made even) made in
    on_err c.from_residual-in_err-read_back.result
    (stops_at (behind first (c.in_err-read_back.ensures.stops (still_honest first honest))))
