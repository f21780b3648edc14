use Rattle.std.proofs.Common.{arith}
use Rattle.nor_driver.proofs.ReadsInTurn.{only_reads_within}
use Rattle.nor_scan.proofs.identifying.read_on.Goals as goal

pub returns-in_err-unique-clause-leaves : goal.returns-in_err-unique-clause-leaves
returns-in_err-unique-clause-leaves g c =
    only_reads_within 2 (omega arith) c.read_status2.ensures.leaves c.read_unique.ensures.leaves

pub returns-clause-leaves : goal.returns-clause-leaves
returns-clause-leaves g c = only_reads_within 2 (omega arith) c.read_status2.ensures.leaves c.read_unique.ensures.leaves
