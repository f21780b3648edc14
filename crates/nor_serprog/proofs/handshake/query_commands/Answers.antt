use Rattle.std.proofs.Common.{true, false, refl, sym}
use Rattle.nor_serprog.proofs.Handshaken.{port_failed, goes_on, stops_after, offered}
use Rattle.nor_serprog.proofs.handshake.query_commands.Goals as goal

pub returns-in_err-ask-clause-concludes : goal.returns-in_err-ask-clause-concludes
returns-in_err-ask-clause-concludes g c firmware ready =
    port_failed c.from_residual.result c.from_residual.ensures.1
    ((c.in_err-ask.ensures.asked firmware ready tt).acked firmware.commands refl (sym firmware.commands_len))

pub returns-then-not-offers-clause-concludes : goal.returns-then-not-offers-clause-concludes
returns-then-not-offers-clause-concludes g c firmware ready =
    let done = (c.in_ok-ask.ensures.asked firmware ready tt).acked firmware.commands refl (sym firmware.commands_len) in
    let h = offered firmware c.ask.new.reply 0x13 _ false c.offers.ensures done.value c.if-not-offers.true in
    stops_after done (rw h)

pub returns-clause-concludes : goal.returns-clause-concludes
returns-clause-concludes g c firmware ready =
    let done = (c.in_ok-ask.ensures.asked firmware ready tt).acked firmware.commands refl (sym firmware.commands_len) in
    let h = offered firmware c.ask.new.reply 0x13 _ true c.offers.ensures done.value c.if-not-offers.false in
    goes_on done (rw h) done.value
