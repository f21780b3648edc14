use Rattle.serprog_session.proofs.Replying.{Answers}
use Rattle.serprog_session.proofs.sim_port.reply_to_each.Given as goal

abbrev pub invariant-loop-done : goal.invariant-loop-done
invariant-loop-done l = Answers l.frames l.rest l.fn.pending.items l.pending.items l.fn.bus_type l.bus_type l.done
