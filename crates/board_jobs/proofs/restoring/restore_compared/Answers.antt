use Rattle.std.proofs.Common.{◌≡◌, ◌∙◌, ap, arith, inl, inr, length, refl}
use Rattle.std.proofs.lemmas.Result.{err_from_is_err_and}
use Rattle.board_jobs.proofs.Merged.{whole_again}
use Rattle.board_jobs.proofs.Restored.{compared, compares_fails}
use Rattle.board_jobs.proofs.restoring.restore_compared.Goals as goal

pub returns-in_err-rest-clause-err : goal.returns-in_err-rest-clause-err
returns-in_err-rest-clause-err g c =
    let p = err_from_is_err_and c.from_residual.result c.from_residual.ensures.1 in
    rw (p.1, p.2) (inl (refl, refl))

pub returns-in_err-again-clause-err : goal.returns-in_err-again-clause-err
returns-in_err-again-clause-err g c =
    let p = err_from_is_err_and c.from_residual-in_err-again.result c.from_residual-in_err-again.ensures.1 in
    rw (p.1, p.2) (inl (refl, refl))

pub returns-in_err-read_before-clause-err : goal.returns-in_err-read_before-clause-err
returns-in_err-read_before-clause-err g c =
    let p = err_from_is_err_and c.from_residual-in_err-read_before.result
    c.from_residual-in_err-read_before.ensures.1 in
    rw (p.1, p.2) (inr c.in_err-read_before.ensures.err)

pub returns-clause-ok : goal.returns-clause-ok
returns-clause-ok g c =
    let long : length c.read_before.new.rest ≡ length c.in_ok-rest.rest.items
    = c.read_before.auto.rest ∙ ap length c.deref_mut.ensures.value in
    let is : c.in_ok-rest.rest.len ≡ length c.read_before.new.rest = omega (arith, c.in_ok-rest.rest.ok.0, long) in
    compared c.args.operation.now c.args.journal.now _ _ _ _ _ c.in_ok-read_before.ensures.ok _
    c.restore_fitting-outcome.ensures c.follow_restore.result
    (rw (c.deref.ensures.value, whole_again c.read_before.new.rest c.in_ok-rest.rest.items _ is)
    at c.follow_restore.ensures.ok)

pub returns-clause-err : goal.returns-clause-err
returns-clause-err g c =
    let long : length c.read_before.new.rest ≡ length c.in_ok-rest.rest.items
    = c.read_before.auto.rest ∙ ap length c.deref_mut.ensures.value in
    let is : c.in_ok-rest.rest.len ≡ length c.read_before.new.rest = omega (arith, c.in_ok-rest.rest.ok.0, long) in
    compares_fails c.args.operation.now c.args.journal.now _ _ _ _ _ c.in_ok-read_before.ensures.ok _
    c.restore_fitting-outcome.ensures c.follow_restore.result
    (rw (c.deref.ensures.value, whole_again c.read_before.new.rest c.in_ok-rest.rest.items _ is)
    at c.follow_restore.ensures.err)
