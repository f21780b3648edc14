use Rattle.std.proofs.Common.{Ok, Err, arith, rules}
use Rattle.serprog_runs.proofs.lock_job.run_lock.Goals as goal

pub returns-in-Ok : goal.returns-in-Ok
returns-in-Ok g c = record {
  outcome = Ok c.in-Ok.change;
  ends = c.in-Ok.ensures.ok;
  sends = c.set_srp0.ensures.sends;
  few = c.end_run.ensures.few c.end_changed-printed.ensures.few;
  printed = λ zero. c.end_changed-printed.ensures.printed (c.end_run.ensures.failed zero);
}

pub returns-in-Err : goal.returns-in-Err
returns-in-Err g c = record {
  outcome = Err c.in-Err.fault;
  ends = c.in-Err.ensures.err;
  sends = c.set_srp0.ensures.sends;
  few = c.end_log.ensures.few (omega arith);
  printed = λ zero. search rules;
}
