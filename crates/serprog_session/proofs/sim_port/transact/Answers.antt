use Rattle.serprog_session.proofs.Simulated.{open_reply}
use Rattle.serprog_session.proofs.sim_port.transact.Goals as goal

pub returns : goal.returns
returns c = λ bus_type pending pending'.
    open_reply c.args.out.now c.carry_out.new.reply c.read_on.new.reply _ _ c.read_on.ensures c.read_on.auto.reply
    (c.carry_out.ensures bus_type pending pending')
