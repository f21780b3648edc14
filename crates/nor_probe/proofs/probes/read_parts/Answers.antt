use Rattle.std.proofs.Common.{arith}
use Rattle.nor_model.proofs.Histories.{keeps_replies_then}
use Rattle.nor_driver.proofs.ReadsInTurn.{only_reads_within}
use Rattle.nor_probe.proofs.Replied.{sfdp_keeps}
use Rattle.nor_probe.proofs.probes.read_parts.Goals as goal

pub returns-in_err-read_parameters-2-clause-leaves : goal.returns-in_err-read_parameters-2-clause-leaves
returns-in_err-read_parameters-2-clause-leaves g c =
    only_reads_within 3 (omega arith) c.read_parameters.ensures.leaves c.read_parameters-2.ensures.leaves

pub returns-in_err-read_parameters-3-clause-leaves : goal.returns-in_err-read_parameters-3-clause-leaves
returns-in_err-read_parameters-3-clause-leaves g c =
    only_reads_within 3 (omega arith) (only_reads_within 2 (omega arith) c.read_parameters.ensures.leaves c.read_parameters-2.ensures.leaves)
    c.read_parameters-3.ensures.leaves

pub returns-clause-leaves : goal.returns-clause-leaves
returns-clause-leaves g c =
    only_reads_within 3 (omega arith) (only_reads_within 2 (omega arith) c.read_parameters.ensures.leaves c.read_parameters-2.ensures.leaves)
    c.read_parameters-3.ensures.leaves

pub returns-clause-replies : goal.returns-clause-replies
returns-clause-replies g c =
    keeps_replies_then (sfdp_keeps _ c.in_ok-read_parameters.ensures.does.answered)
    (keeps_replies_then (sfdp_keeps _ c.in_ok-read_parameters-2.ensures.does.answered)
    (sfdp_keeps _ c.in_ok-read_parameters-3.ensures.does.answered))

pub returns-clause-replied : goal.returns-clause-replied
returns-clause-replied g c = record {
  before = _;
  at_header = _;
  at_first = _;
  read_header = c.in_ok-read_parameters.ensures.does.answered;
  read_first = c.in_ok-read_parameters-2.ensures.does.answered;
  read_table = rw (← c.pointer_in.ensures.pointer) c.in_ok-read_parameters-3.ensures.does.answered;
}
