use Rattle.std.proofs.Common.{true, false, refl}
use Rattle.nor_serprog.specs.Firmware.{has_command, two_of}
use Rattle.nor_serprog.proofs.Handshaken.{port_failed, goes_on, stops_after, offered, lacks_query, replied, below, not_below, two_read}
use Rattle.nor_serprog.proofs.handshake.query_buffer.Goals as goal

pub returns-in_err-size-clause-concludes : goal.returns-in_err-size-clause-concludes
returns-in_err-size-clause-concludes g c firmware ready same =
    port_failed c.from_residual.result c.from_residual.ensures.1
    (c.in_err-size.ensures.concludes firmware (two_of firmware.buffer) ready same tt refl refl (λ s. refl))

pub returns-in-None-clause-concludes : goal.returns-in-None-clause-concludes
returns-in-None-clause-concludes g c firmware ready same =
    let done = c.in_ok-size.ensures.concludes firmware (two_of firmware.buffer) ready same tt refl refl (λ s. refl) in
    let h = lacks_query (has_command firmware 0x04) (two_of firmware.buffer) _ c.in-None.is done.value in
    goes_on done (rw h) (rw h)

pub returns-then-offers-clause-concludes : goal.returns-then-offers-clause-concludes
returns-then-offers-clause-concludes g c firmware ready same =
    let done = c.in_ok-size.ensures.concludes firmware (two_of firmware.buffer) ready same tt refl refl (λ s. refl) in
    let r = replied (has_command firmware 0x04) (two_of firmware.buffer) _ _ c.in-Some.is done.value in
    let e = two_read firmware.buffer _ _ c.from_le_bytes-size.ensures r.bytes_are firmware.buffer_fits in
    let h8 = offered firmware c.args.commands.now 0x08 _ true c.offers.ensures same c.if-offers.true in
    goes_on done (rw (r.has_query, h8)) (rw r.has_query e)

pub returns-then-size-least-clause-concludes : goal.returns-then-size-least-clause-concludes
returns-then-size-least-clause-concludes g c firmware ready same =
    let done = c.in_ok-size.ensures.concludes firmware (two_of firmware.buffer) ready same tt refl refl (λ s. refl) in
    let r = replied (has_command firmware 0x04) (two_of firmware.buffer) _ _ c.in-Some.is done.value in
    let e = two_read firmware.buffer _ _ c.from_le_bytes-size.ensures r.bytes_are firmware.buffer_fits in
    let h8 = offered firmware c.args.commands.now 0x08 _ false c.offers.ensures same c.if-offers.false in
    stops_after done (rw (r.has_query, h8, ← e, below _ c.args.least c.if-size-least.true))

pub returns-clause-concludes : goal.returns-clause-concludes
returns-clause-concludes g c firmware ready same =
    let done = c.in_ok-size.ensures.concludes firmware (two_of firmware.buffer) ready same tt refl refl (λ s. refl) in
    let r = replied (has_command firmware 0x04) (two_of firmware.buffer) _ _ c.in-Some.is done.value in
    let e = two_read firmware.buffer _ _ c.from_le_bytes-size.ensures r.bytes_are firmware.buffer_fits in
    let h8 = offered firmware c.args.commands.now 0x08 _ false c.offers.ensures same c.if-offers.false in
    goes_on done (rw (r.has_query, h8, ← e, not_below _ c.args.least c.if-size-least.false)) (rw r.has_query e)
