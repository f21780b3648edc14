use Rattle.std.proofs.lemmas.Result.{IfOk-weaker}
use Rattle.board_jobs.proofs.jobs.read_chip.Goals as goal

pub returns-clause-ok : goal.returns-clause-ok
returns-clause-ok g c = IfOk-weaker c.read_to_file.result _ _ (λ outcome read. record {
  found = g.B.Bus.state c.identify_or_fault.new.bus;
  chip = c.in_ok-found.found;
  identified = c.in_ok-found.ensures.ok;
  read = rw c.expect_reads.ensures at read;
}) c.read_to_file.ensures.ok
