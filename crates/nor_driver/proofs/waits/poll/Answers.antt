use Rattle.std.proofs.Common.{refl, rules}
use Rattle.nor_driver.proofs.Readings.{poll_fits}
use Rattle.nor_driver.proofs.Sends.{sends_by}
use Rattle.nor_driver.proofs.Torn.{honest_reads_at_stop}
use Rattle.nor_driver.proofs.Waiting.{replied_byte}
use Rattle.nor_driver.proofs.waits.poll.Goals as goal

pub returns-in_err-transfer-clause-leaves : goal.returns-in_err-transfer-clause-leaves
returns-in_err-transfer-clause-leaves g c =
    let sends = sends_by c.transfer.ensures.nature c.transfer.ensures.records in record {
      nature = sends.nature;
      sent = sends.sent.quiet refl;
      honest_reads = λ honest. honest_reads_at_stop _ _ _ 1 refl (c.in_err-transfer.ensures.stops (poll_fits _ honest));
    }

pub returns-clause-leaves : goal.returns-clause-leaves
returns-clause-leaves g c =
    let sends = sends_by c.transfer.ensures.nature c.transfer.ensures.records in record {
      nature = sends.nature;
      sent = sends.sent.quiet refl;
      honest_reads = search rules;
    }

pub returns-clause-does : goal.returns-clause-does
returns-clause-does g c = record {
  history = replied_byte _ _ _ _ c.transfer.auto.reply c.in_ok-transfer.ensures.records.history;
  done = search rules;
}
