use Rattle.std.proofs.Common.{rules}
use Rattle.nor_console.proofs.Lent.{stays_same}
use Rattle.board_jobs.proofs.Found.{change_done, change_failed, restore_failed}
use Rattle.board_jobs.proofs.jobs.perform.Goals as goal

pub returns-in-Read : goal.returns-in-Read
returns-in-Read g c = rw (c.in-Read.is, c.if-operation.true) (record {
  ok = c.in_ok-backup_chip-in-Read.ensures.ok;
  err = tt;
  others = c.backup_chip.ensures.others;
  sealed = λ lawful. tt;
})

pub returns-in-Read-2 : goal.returns-in-Read-2
returns-in-Read-2 g c = rw (c.in-Read-2.is, c.if-operation.false) (record {
  ok = rw c.as_ref.ensures.value at c.in_ok-read_chip-in-Read-2.ensures.ok;
  err = tt;
  others = c.read_chip.ensures.others;
  sealed = λ lawful. tt;
})

pub returns-in-Change-clause-ok : goal.returns-in-Change-clause-ok
returns-in-Change-clause-ok g c = change_done c.args.operation.now c.in-Change.change _ _ _ _ _ _
    c.args.operation.now.task c.in-Change.is c.change_chip.result c.change_chip.ensures.ok

pub returns-in-Change-clause-err : goal.returns-in-Change-clause-err
returns-in-Change-clause-err g c = change_failed c.args.operation.now c.in-Change.change _ _ _ _ _ _
    c.args.operation.now.task c.in-Change.is c.change_chip.result c.change_chip.ensures.err

pub returns-in-Change-clause-others : goal.returns-in-Change-clause-others
returns-in-Change-clause-others g c = rw c.in-Change.is c.change_chip.ensures.others

pub returns-in-Change-clause-sealed : goal.returns-in-Change-clause-sealed
returns-in-Change-clause-sealed g c = rw c.in-Change.is c.change_chip.ensures.sealed

pub returns-in-Restore-clause-err : goal.returns-in-Restore-clause-err
returns-in-Restore-clause-err g c = restore_failed c.args.operation.now _ _ _ _ _ _ c.args.operation.now.task _
    c.in-Restore.is c.restore_chip.result (rw c.deref.ensures.value at c.restore_chip.ensures.err)

pub returns-in-Probe : goal.returns-in-Probe
returns-in-Probe g c = rw c.in-Probe.is (search (rules, stays_same, c.answer_probe.ensures))

pub returns-in-FlashSize : goal.returns-in-FlashSize
returns-in-FlashSize g c = rw c.in-FlashSize.is (search (rules, stays_same, c.report_size.ensures))

pub returns-in-WpStatus : goal.returns-in-WpStatus
returns-in-WpStatus g c = rw c.in-WpStatus.is (search (rules, stays_same, c.report_protection.ensures))

pub returns : goal.returns
returns g c = rw c.in-WpList.is (search (rules, stays_same, c.list_ranges.ensures))
