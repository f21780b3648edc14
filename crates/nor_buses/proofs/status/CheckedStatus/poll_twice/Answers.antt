use Rattle.std.proofs.Common.{◌≡◌, arith}
use Rattle.std.specs.Prelude.{◌%◌}
use Rattle.std.proofs.lemmas.Grind.{common_steps}
use Rattle.nor_buses.proofs.ReadsKeep.{stops_at, keeps_stops, on_err}
use Rattle.nor_buses.proofs.Polls.{ready_shown, quiet_poll, quiet_id, quiet_then, still_honest, still_ready, behind, poll_stops, polls_agree, quiet_made}
use Rattle.nor_buses.proofs.status.CheckedStatus.poll_twice.Goals as goal

pub returns-in_err-read_id-clause-stops : goal.returns-in_err-read_id-clause-stops
returns-in_err-read_id-clause-stops g c honest =
    let made = c.in_ok-status.ensures.steps honest in
    let even : c.in_ok-status.status % 2 ≡ 0 = grind (arith, common_steps, c.if-status-ne0.false) in
    let ready = ready_shown made even in
    let first = quiet_poll c.poll_once.ensures.nature ready made in
    on_err c.from_residual-in_err-read_id.result
    (stops_at (behind first (c.in_err-read_id.ensures.stops (still_honest first honest))))

pub returns-in_err-again-clause-stops : goal.returns-in_err-again-clause-stops
returns-in_err-again-clause-stops g c honest =
    let made = c.in_ok-status.ensures.steps honest in
    let even : c.in_ok-status.status % 2 ≡ 0 = grind (arith, common_steps, c.if-status-ne0.false) in
    let ready = ready_shown made even in
    let first = quiet_poll c.poll_once.ensures.nature ready made in
    let second = quiet_then first
    (quiet_id c.read_id.ensures.nature (c.in_ok-read_id.ensures.steps (still_honest first honest))) in
    on_err c.from_residual-in_err-again.result
    (stops_at (behind second
    (poll_stops (still_ready second ready) (c.in_err-again.ensures.stops (still_honest second honest)))))

pub returns-then-again-ne0-clause-stops : goal.returns-then-again-ne0-clause-stops
returns-then-again-ne0-clause-stops g c honest =
    let made = c.in_ok-status.ensures.steps honest in
    let even : c.in_ok-status.status % 2 ≡ 0 = grind (arith, common_steps, c.if-status-ne0.false) in
    let ready = ready_shown made even in
    let first = quiet_poll c.poll_once.ensures.nature ready made in
    let second = quiet_then first
    (quiet_id c.read_id.ensures.nature (c.in_ok-read_id.ensures.steps (still_honest first honest))) in
    let third = quiet_then second
    (quiet_poll c.poll_once-2.ensures.nature (still_ready second ready)
    (c.in_ok-again.ensures.steps (still_honest second honest))) in
    rw c.stop.ensures.inside (stops_at (keeps_stops third.keeps))

pub returns-then-again-status-2-clause-stops : goal.returns-then-again-status-2-clause-stops
returns-then-again-status-2-clause-stops g c honest =
    let made = c.in_ok-status.ensures.steps honest in
    let even : c.in_ok-status.status % 2 ≡ 0 = grind (arith, common_steps, c.if-status-ne0.false) in
    let ready = ready_shown made even in
    let first = quiet_poll c.poll_once.ensures.nature ready made in
    let second = quiet_then first
    (quiet_id c.read_id.ensures.nature (c.in_ok-read_id.ensures.steps (still_honest first honest))) in
    let third = quiet_then second
    (quiet_poll c.poll_once-2.ensures.nature (still_ready second ready)
    (c.in_ok-again.ensures.steps (still_honest second honest))) in
    stops_at (behind third (c.differ.ensures.stops (still_honest third honest)))

pub returns-in_err-read_id-2-clause-stops : goal.returns-in_err-read_id-2-clause-stops
returns-in_err-read_id-2-clause-stops g c honest =
    let made = c.in_ok-status.ensures.steps honest in
    let even : c.in_ok-status.status % 2 ≡ 0 = grind (arith, common_steps, c.if-status-ne0.false) in
    let ready = ready_shown made even in
    let first = quiet_poll c.poll_once.ensures.nature ready made in
    let second = quiet_then first
    (quiet_id c.read_id.ensures.nature (c.in_ok-read_id.ensures.steps (still_honest first honest))) in
    let third = quiet_then second
    (quiet_poll c.poll_once-2.ensures.nature (still_ready second ready)
    (c.in_ok-again.ensures.steps (still_honest second honest))) in
    on_err c.from_residual-in_err-read_id-2.result
    (stops_at (behind third (c.in_err-read_id-2.ensures.stops (still_honest third honest))))

pub returns-clause-steps : goal.returns-clause-steps
returns-clause-steps g c honest =
    let made = c.in_ok-status.ensures.steps honest in
    let even : c.in_ok-status.status % 2 ≡ 0 = grind (arith, common_steps, c.if-status-ne0.false) in
    let ready = ready_shown made even in
    let first = quiet_poll c.poll_once.ensures.nature ready made in
    let second = quiet_then first
    (quiet_id c.read_id.ensures.nature (c.in_ok-read_id.ensures.steps (still_honest first honest))) in
    let third = quiet_then second
    (quiet_poll c.poll_once-2.ensures.nature (still_ready second ready)
    (c.in_ok-again.ensures.steps (still_honest second honest))) in
    let last = quiet_id c.read_id-2.ensures.nature (c.in_ok-read_id-2.ensures.steps (still_honest third honest)) in
    quiet_made first (quiet_then third last) made

-- Two polls of a ready chip of the model can't differ.
pub returns-then-self-clause-steps : goal.returns-then-self-clause-steps
returns-then-self-clause-steps g c honest =
    let made = c.in_ok-status.ensures.steps honest in
    let even : c.in_ok-status.status % 2 ≡ 0 = grind (arith, common_steps, c.if-status-ne0.false) in
    let first = quiet_poll c.poll_once.ensures.nature (ready_shown made even) made in
    let second = quiet_then first
    (quiet_id c.read_id.ensures.nature (c.in_ok-read_id.ensures.steps (still_honest first honest))) in
    let agree : c.in_ok-again.again ≡ c.in_ok-status.status =
    polls_agree made second.keeps (c.in_ok-again.ensures.steps (still_honest second honest)) in
    absurd (grind (arith, common_steps, c.if-again-status.true))
