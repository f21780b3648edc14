use Rattle.std.proofs.Common.{true, refl}
use Rattle.nor_serprog.proofs.Handshaken.{returns_error, offered, clock_err, clock_ok}
use Rattle.nor_serprog.proofs.handshake.set_frequency.Goals as goal

pub returns-in_err-ask-clause-concludes : goal.returns-in_err-ask-clause-concludes
returns-in_err-ask-clause-concludes g c firmware ready same =
    let h = offered firmware c.args.commands.now 0x14 _ true c.offers.ensures same c.if-not-offers.false in
    rw (c.in-Some.is, h)
    (returns_error c.from_residual.result c.from_residual.ensures.1
    (clock_err firmware _ _ _ _ _ _ _ refl (c.in_err-ask.ensures.asked firmware ready h)))

pub returns-clause-concludes : goal.returns-clause-concludes
returns-clause-concludes g c firmware ready same =
    let h = offered firmware c.args.commands.now 0x14 _ true c.offers.ensures same c.if-not-offers.false in
    rw (c.in-Some.is, h)
    (clock_ok firmware _ _ _ _ _ _ refl c.from_le_bytes.ensures (c.in_ok-ask.ensures.asked firmware ready h))
