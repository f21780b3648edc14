use Rattle.board_jobs.proofs.Locks.{status_read}
use Rattle.board_jobs.proofs.status_lock.read_status.Goals as goal

pub returns-clause-ok : goal.returns-clause-ok
returns-clause-ok g c = status_read (g.B.Bus.state c.args.bus.now) (g.B.Bus.state c.wait.new.bus)
    (g.B.Bus.state c.read_status2.new.bus) c.in_ok-waited.waited c.in_ok-two.two c.in_ok-waited.ensures.does
    c.in_ok-two.ensures.does c.wait.ensures.leaves.sent c.read_status2.ensures.leaves.sent
