use Rattle.std.proofs.Common.{◌∙◌}
use Rattle.std.proofs.lemmas.Result.{IfOk-weaker}
use Rattle.board_jobs.proofs.Locks.{sets_within}
use Rattle.board_jobs.proofs.status_lock.write_srp0.Goals as goal

pub returns-clause-ok : goal.returns-clause-ok
returns-clause-ok g c = IfOk-weaker c.read_status.result _ _
    (λ after read. record {
      wrote = g.B.Bus.state c.write_status.new.bus;
      within = sets_within c.args.srp0 c.args.before c.of-status.result c.code.result
          (c.of-status.ensures ∙ c.bytes_with.ensures) c.code.ensures (g.B.Bus.state c.args.bus.now)
          (g.B.Bus.state c.write_status.new.bus) c.write_status.ensures.leaves.leaves.sends;
      exactly = c.in_ok-write_status.ensures.does.sends;
      read = read;
    })
    c.read_status.ensures.ok
