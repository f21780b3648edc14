use Rattle.std.proofs.Common.{◌∙◌, sym, refl}
use Rattle.nor_serprog.proofs.Handshaken.{port_failed, goes_on, stops_after, offered}
use Rattle.nor_serprog.proofs.handshake.require_spi.Goals as goal

pub returns-in_err-buses-clause-concludes : goal.returns-in_err-buses-clause-concludes
returns-in_err-buses-clause-concludes g c firmware ready same =
    port_failed c.from_residual.result c.from_residual.ensures.1 (c.in_err-buses.ensures.concludes firmware ready same)

pub returns-then-not-can_select_spi-clause-concludes : goal.returns-then-not-can_select_spi-clause-concludes
returns-then-not-can_select_spi-clause-concludes g c firmware ready same =
    let done = c.in_ok-buses.ensures.concludes firmware ready same in
    let h = offered firmware c.args.commands.now 0x12 c.offers.result c.offers.result c.offers.ensures same refl in
    stops_after done (rw (← done.value, h, sym c.can_select_spi.ensures ∙ c.if-not-can_select_spi.true))

pub returns-clause-concludes : goal.returns-clause-concludes
returns-clause-concludes g c firmware ready same =
    let done = c.in_ok-buses.ensures.concludes firmware ready same in
    let h = offered firmware c.args.commands.now 0x12 c.offers.result c.offers.result c.offers.ensures same refl in
    goes_on done (rw (← done.value, h, sym c.can_select_spi.ensures ∙ c.if-not-can_select_spi.false)) tt
