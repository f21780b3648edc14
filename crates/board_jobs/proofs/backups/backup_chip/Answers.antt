use Rattle.std.proofs.lemmas.Result.{IfOk-weaker}
use Rattle.board_jobs.proofs.backups.backup_chip.Goals as goal

pub returns-clause-ok : goal.returns-clause-ok
returns-clause-ok g c = IfOk-weaker c.backup_in_file.result _ _ (λ outcome saved. record {
  found = g.B.Bus.state c.identify_or_fault.new.bus;
  chip = c.in_ok-found.found;
  identified = c.in_ok-found.ensures.ok;
  saved = rw c.expect_reads.ensures at saved;
}) c.backup_in_file.ensures.ok
