use Rattle.std.proofs.Common.{rules, arith}
use Rattle.std.proofs.lemmas.Grind.{common_steps}
use Rattle.nor_driver.proofs.ReadsInTurn.{only_reads_within, only_reads_more}
use Rattle.nor_scan.proofs.Replied.{identified_by}
use Rattle.nor_session.proofs.Reopened.{probe_prepare_errors}
use Rattle.nor_session.proofs.prepare_restore.identify_type.Goals as goal

pub returns-in_err-probed-clause-errors : goal.returns-in_err-probed-clause-errors
returns-in_err-probed-clause-errors g c = λ choice.
    let returned = probe_prepare_errors choice c.args.journal.now (g.B.Bus.state c.args.bus.now) (g.B.Bus.state c.probe_counted.new.bus) c.in_err-probed.field-0.0 c.in_err-probed.ensures.always.blames
    c.in_err-probed.ensures.always.last_transaction
    (λ honest. (c.in_err-probed.ensures.honest honest).errors) in
    grind (arith, common_steps, returned)

pub returns-in_err-identity-clause-leaves : goal.returns-in_err-identity-clause-leaves
returns-in_err-identity-clause-leaves g c =
    only_reads_within 65542 (omega arith) c.probe_counted.ensures.always.only_reads c.read_on.ensures.leaves

pub returns-clause-leaves : goal.returns-clause-leaves
returns-clause-leaves g c =
    only_reads_within 65542 (omega arith) c.probe_counted.ensures.always.only_reads c.read_on.ensures.leaves

pub returns-then-not-is_of_type-clause-leaves : goal.returns-then-not-is_of_type-clause-leaves
returns-then-not-is_of_type-clause-leaves g c = search (rules, arith, only_reads_more)

pub returns-clause-identifies : goal.returns-clause-identifies
returns-clause-identifies g c =
    let rest = c.in_ok-identity.ensures.reads in record {
      part = grind (arith, common_steps);
      replied = identified_by (grind (arith, common_steps)) rest;
      wanted = grind (arith, common_steps);
      least = grind (arith, common_steps);
      most = grind (arith, common_steps);
      polled_ready = grind (arith, common_steps);
      rested = grind (arith, common_steps);
      idle = grind (arith, common_steps);
      shown = grind (arith, common_steps);
      genuine = grind (arith, common_steps);
      status1 = grind (arith, common_steps);
      status2 = grind (arith, common_steps);
      unique = grind (arith, common_steps);
      count = grind (arith, common_steps);
      exact = grind (arith, common_steps);
    }
