use Rattle.serprog_runs.proofs.LogMade.{log_started}
use Rattle.serprog_board.proofs.Results.{none_ok}
use Rattle.serprog_runs.proofs.preparing.prepare.Goals as goal

pub returns-in_err-start_log-clause-logged : goal.returns-in_err-start_log-clause-logged
returns-in_err-start_log-clause-logged g c =
    log_started c.args.operation.now.log _ _ _ c.read_files.ensures.same c.start_log.ensures.creates

pub returns-in_err-check_started-clause-logged : goal.returns-in_err-check_started-clause-logged
returns-in_err-check_started-clause-logged g c =
    log_started c.args.operation.now.log _ _ _ c.read_files.ensures.same c.start_log.ensures.creates

pub returns-in_err-connected-clause-logged : goal.returns-in_err-connected-clause-logged
returns-in_err-connected-clause-logged g c =
    log_started c.args.operation.now.log _ _ _ c.read_files.ensures.same c.start_log.ensures.creates

pub returns-clause-logged : goal.returns-clause-logged
returns-clause-logged g c =
    log_started c.args.operation.now.log _ _ _ c.read_files.ensures.same c.start_log.ensures.creates

pub returns-in_err-start_log-clause-ok : goal.returns-in_err-start_log-clause-ok
returns-in_err-start_log-clause-ok g c =
    none_ok _ _ c.from_residual-in_err-start_log.result c.from_residual-in_err-start_log.ensures.1

pub returns-in_err-start_log-clause-fresh : goal.returns-in_err-start_log-clause-fresh
returns-in_err-start_log-clause-fresh g c =
    none_ok _ _ c.from_residual-in_err-start_log.result c.from_residual-in_err-start_log.ensures.1

pub returns-in_err-check_started-clause-ok : goal.returns-in_err-check_started-clause-ok
returns-in_err-check_started-clause-ok g c =
    none_ok _ _ c.from_residual-in_err-check_started.result c.from_residual-in_err-check_started.ensures.1

pub returns-in_err-check_started-clause-fresh : goal.returns-in_err-check_started-clause-fresh
returns-in_err-check_started-clause-fresh g c =
    none_ok _ _ c.from_residual-in_err-check_started.result c.from_residual-in_err-check_started.ensures.1

pub returns-in_err-connected-clause-ok : goal.returns-in_err-connected-clause-ok
returns-in_err-connected-clause-ok g c =
    none_ok _ _ c.from_residual-in_err-connected.result c.from_residual-in_err-connected.ensures.1

pub returns-in_err-connected-clause-fresh : goal.returns-in_err-connected-clause-fresh
returns-in_err-connected-clause-fresh g c =
    none_ok _ _ c.from_residual-in_err-connected.result c.from_residual-in_err-connected.ensures.1

pub returns-clause-fresh : goal.returns-clause-fresh
returns-clause-fresh g c = c.in_ok-connected.ensures.fresh
