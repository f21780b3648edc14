use Rattle.std.proofs.Common.{refl}
use Rattle.nor_serprog.specs.Firmware.{two_of}
use Rattle.nor_serprog.proofs.Handshaken.{port_failed, goes_on, stops_after, two_read, unequal}
use Rattle.nor_serprog.proofs.handshake.require_version.Goals as goal

pub returns-in_err-ask-clause-concludes : goal.returns-in_err-ask-clause-concludes
returns-in_err-ask-clause-concludes g c firmware ready =
    port_failed c.from_residual.result c.from_residual.ensures.1
    ((c.in_err-ask.ensures.asked firmware ready tt).acked (two_of firmware.version) refl refl)

pub returns-then-version-ne1-clause-concludes : goal.returns-then-version-ne1-clause-concludes
returns-then-version-ne1-clause-concludes g c firmware ready =
    let done = (c.in_ok-ask.ensures.asked firmware ready tt).acked (two_of firmware.version) refl refl in
    let e = two_read firmware.version _ _ c.from_le_bytes-version.ensures done.value firmware.version_fits in
    stops_after done (rw (← e, unequal _ 1 c.if-version-ne1.true))

pub returns-clause-concludes : goal.returns-clause-concludes
returns-clause-concludes g c firmware ready =
    let done = (c.in_ok-ask.ensures.asked firmware ready tt).acked (two_of firmware.version) refl refl in
    let e = two_read firmware.version _ _ c.from_le_bytes-version.ensures done.value firmware.version_fits in
    goes_on done (rw (← e, c.if-version-ne1.false)) tt
