use Rattle.std.proofs.Common.{◌∙◌, sym}
use Rattle.std.proofs.lemmas.Result.{err_from_is_err_and}
use Rattle.board_jobs.proofs.Fitted.{status_unread}
use Rattle.board_jobs.proofs.fitting.fit.Goals as goal

pub returns-in_err-found-clause-err : goal.returns-in_err-found-clause-err
returns-in_err-found-clause-err g c =
    let p = err_from_is_err_and c.from_residual.result c.from_residual.ensures.1 in
    rw (p.1, p.2) (status_unread _ (g.B.Bus.state c.args.bus.now) (g.B.Bus.state c.read_status.new.bus)
    c.read_status.ensures.kept c.in_err-found.ensures.err)

pub returns-in-Ok-clause-ok : goal.returns-in-Ok-clause-ok
returns-in-Ok-clause-ok g c = record {
  found = c.in_ok-found.found;
  shows = c.in_ok-found.ensures.ok;
  stays = rw c.status-saved.ensures.value at (sym c.may_stay.ensures ∙ c.if-not-may_stay.false);
  encoded = rw (c.fitted_status.ensures, c.status-saved.ensures.value) at c.in-Ok.ensures;
}
