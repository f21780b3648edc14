use Rattle.std.proofs.Common.{refl}
use Rattle.nor_serprog.specs.Frame.{three_of}
use Rattle.nor_serprog.specs.Firmware.{has_command}
use Rattle.nor_serprog.proofs.Handshaken.{port_failed, goes_on, stops_after, below, not_below}
use Rattle.nor_serprog.proofs.handshake.query_read_limit.Goals as goal

pub returns-in_err-query-clause-concludes : goal.returns-in_err-query-clause-concludes
returns-in_err-query-clause-concludes g c firmware ready same =
    port_failed c.from_residual.result c.from_residual.ensures.1
    (c.in_err-query.ensures.concludes firmware (three_of firmware.longest_read) ready same tt refl refl (λ s. refl))

pub returns-then-limit-least-clause-concludes : goal.returns-then-limit-least-clause-concludes
returns-then-limit-least-clause-concludes g c firmware ready same =
    let done = c.in_ok-query.ensures.concludes firmware (three_of firmware.longest_read) ready same tt refl refl (λ s. refl) in
    let e = c.limit_of-limit.ensures (has_command firmware 0x11) firmware.longest_read firmware.read_fits done.value in
    stops_after done (rw (← e, below _ c.args.least c.if-limit-least.true))

pub returns-clause-concludes : goal.returns-clause-concludes
returns-clause-concludes g c firmware ready same =
    let done = c.in_ok-query.ensures.concludes firmware (three_of firmware.longest_read) ready same tt refl refl (λ s. refl) in
    let e = c.limit_of-limit.ensures (has_command firmware 0x11) firmware.longest_read firmware.read_fits done.value in
    goes_on done (rw (← e, not_below _ c.args.least c.if-limit-least.false)) e
