use Rattle.std.proofs.Common.{inr, refl}
use Rattle.std.proofs.lemmas.Result.{err_from_is_err_and}
use Rattle.board_jobs.proofs.Restored.{fails_from, restored_from}
use Rattle.board_jobs.proofs.restoring.restore_chip.Goals as goal

pub returns-in_err-journal-clause-err : goal.returns-in_err-journal-clause-err
returns-in_err-journal-clause-err g c =
    let p = err_from_is_err_and c.from_residual.result c.from_residual.ensures.1 in
    rw (p.1, p.2) (inr (refl, (_, c.in_err-journal.ensures.err, refl)))

pub returns-clause-ok : goal.returns-clause-ok
returns-clause-ok g c = restored_from c.args.operation.now _ c.in_ok-journal.journal c.in_ok-journal.ensures.ok.0
    c.in_ok-journal.ensures.ok.1 _ _ c.restore_from.result c.restore_from.ensures.ok

pub returns-clause-err : goal.returns-clause-err
returns-clause-err g c = fails_from c.args.operation.now _ c.in_ok-journal.journal c.in_ok-journal.ensures.ok.0
    c.in_ok-journal.ensures.ok.1 _ _ c.restore_from.result c.restore_from.ensures.err
