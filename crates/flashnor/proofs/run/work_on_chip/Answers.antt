use Rattle.std.proofs.Common.{inl}
use Rattle.std.proofs.lemmas.Result.{err_from_is_err_and}
use Rattle.flashnor.proofs.Before.{keeps_still}
use Rattle.flashnor.proofs.Ended.{fails_memory}
use Rattle.flashnor.proofs.run.work_on_chip.Goals as goal

pub returns-in_err-files_have_one_role-clause-keeps : goal.returns-in_err-files_have_one_role-clause-keeps
returns-in_err-files_have_one_role-clause-keeps g c = λ rest. keeps_still _ c.args.job.now.programmer c.args.job.now.task

pub returns-in_err-files_have_one_role-clause-err : goal.returns-in_err-files_have_one_role-clause-err
returns-in_err-files_have_one_role-clause-err g c =
    let p = err_from_is_err_and c.from_residual.result
    c.from_residual.ensures.1 in
    rw (p.1, p.2) (inl c.in_err-files_have_one_role.ensures.err)

pub returns-in_err-look_at_sources-clause-keeps : goal.returns-in_err-look_at_sources-clause-keeps
returns-in_err-look_at_sources-clause-keeps g c = λ rest.
    keeps_still _ c.args.job.now.programmer c.args.job.now.task

pub returns-in_err-look_at_sources-clause-err : goal.returns-in_err-look_at_sources-clause-err
returns-in_err-look_at_sources-clause-err g c =
    let p = err_from_is_err_and c.from_residual-in_err-look_at_sources.result
    c.from_residual-in_err-look_at_sources.ensures.1 in
    rw (p.1, p.2) (fails_memory _ c.args.job.now _ c.in_err-look_at_sources.ensures)
