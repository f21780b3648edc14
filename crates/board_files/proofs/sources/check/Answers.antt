use Rattle.std.proofs.lemmas.Result.{err_from_is_err_and}
use Rattle.board_files.proofs.sources.check.Goals as goal

pub returns-in_err-journal_in-in-Restore : goal.returns-in_err-journal_in-in-Restore
returns-in_err-journal_in-in-Restore g c =
    let p = err_from_is_err_and c.from_residual.result c.from_residual.ensures.1 in
    rw (p.1, p.2, c.in-Restore.is) (
      c.args.bytes.now,
      rw c.in-Restore.is at c.requires,
      c.in_err-journal_in-in-Restore.ensures.err,
    )
