use Rattle.nor_driver.proofs.Exits.{leaves-at_enable, leaves-at_command, leaves-at_wait, operates-with}
use Rattle.nor_driver.proofs.Sends.{sends_by}
use Rattle.nor_driver.proofs.operations.operation.Goals as goal

pub returns-in_err-transfer-clause-leaves : goal.returns-in_err-transfer-clause-leaves
returns-in_err-transfer-clause-leaves g c =
    leaves-at_enable _ c.requires _ _ (sends_by c.transfer.ensures.nature c.transfer.ensures.records) c.in_err-transfer.ensures.stops

pub returns-in_err-transfer-2-clause-leaves : goal.returns-in_err-transfer-2-clause-leaves
returns-in_err-transfer-2-clause-leaves g c =
    leaves-at_command _ c.requires _ _ _ c.transfer.auto.reply (sends_by c.transfer.ensures.nature c.transfer.ensures.records)
    c.in_ok-transfer.ensures.carries _ (sends_by c.transfer-2.ensures.nature c.transfer-2.ensures.records) c.in_err-transfer-2.ensures.stops

pub returns-in_err-waited-clause-leaves : goal.returns-in_err-waited-clause-leaves
returns-in_err-waited-clause-leaves g c =
    leaves-at_wait _ c.requires _ _ _ c.transfer.auto.reply (sends_by c.transfer.ensures.nature c.transfer.ensures.records)
    c.in_ok-transfer.ensures.carries _ _ c.transfer-2.auto.reply (sends_by c.transfer-2.ensures.nature c.transfer-2.ensures.records)
    c.in_ok-transfer-2.ensures.carries _ c.wait.ensures.leaves

pub returns-clause-leaves : goal.returns-clause-leaves
returns-clause-leaves g c =
    leaves-at_wait _ c.requires _ _ _ c.transfer.auto.reply (sends_by c.transfer.ensures.nature c.transfer.ensures.records)
    c.in_ok-transfer.ensures.carries _ _ c.transfer-2.auto.reply (sends_by c.transfer-2.ensures.nature c.transfer-2.ensures.records)
    c.in_ok-transfer-2.ensures.carries _ c.wait.ensures.leaves

pub returns-clause-does : goal.returns-clause-does
returns-clause-does g c =
    operates-with _ c.requires _ _ _ c.transfer.auto.reply (sends_by c.transfer.ensures.nature c.transfer.ensures.records)
    c.in_ok-transfer.ensures.carries _ _ c.transfer-2.auto.reply (sends_by c.transfer-2.ensures.nature c.transfer-2.ensures.records)
    c.in_ok-transfer-2.ensures.carries _ _ c.wait.ensures.leaves.sent c.in_ok-waited.ensures.does
    c.in_ok-transfer.ensures.records.history c.in_ok-transfer-2.ensures.records.history
