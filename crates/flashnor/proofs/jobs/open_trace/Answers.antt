use Rattle.std.proofs.Common.{inr}
use Rattle.std.proofs.lemmas.Result.{err_from_is_err_and}
use Rattle.flashnor.proofs.jobs.open_trace.Goals as goal

pub returns-in_err-files_have_one_role-clause-err : goal.returns-in_err-files_have_one_role-clause-err
returns-in_err-files_have_one_role-clause-err g c =
    let p = err_from_is_err_and c.from_residual-in_err-files_have_one_role.result
    c.from_residual-in_err-files_have_one_role.ensures.1 in
    rw (p.1, p.2) (inr (rw (← c.create_trace.ensures.nature) c.in_err-files_have_one_role.ensures.err))
