use Rattle.std.proofs.Common.{true}
use Rattle.nor_serprog.proofs.Handshaken.{offered, set_result}
use Rattle.nor_serprog.proofs.handshake.set.Goals as goal

pub returns-clause-concludes : goal.returns-clause-concludes
returns-clause-concludes g c firmware accepts ready same has_reply reply opcode =
    let h = offered firmware c.args.commands.now c.args.opcode _ true c.offers.ensures same c.if-not-offers.false in
    let a = c.ask.ensures.asked firmware ready (has_reply h) in
    rw h (set_result accepts firmware c.args.setting _ c.args.opcode _ _ _ reply opcode a)
