use Rattle.std.proofs.Common.{rules}
use Rattle.nor_driver.proofs.Passed.{is_err}
use Rattle.nor_read.proofs.ProtectionReports.{unfound, stopped, plain, returned}
use Rattle.nor_read.proofs.protection.wp_status.Goals as goal

pub returns-in_err-found : goal.returns-in_err-found
returns-in_err-found g c = rw (is_err _ _ c.from_residual.ensures.1)
    (assumption (unfound c.args.named _ c.find.ensures.leaves c.in_err-found.ensures.errors))

pub returns-in_err-status2 : goal.returns-in_err-status2
returns-in_err-status2 g c = rw (is_err _ _ c.from_residual-in_err-status2.ensures.1) (assumption
    (stopped c.args.named c.in_ok-found.ensures.finds c.find.ensures.leaves c.read_status2.ensures.leaves
    c.in_err-status2.ensures.fails))

pub returns-then-not-found : goal.returns-then-not-found
returns-then-not-found g c = assumption (plain c.args.named c.in_ok-found.ensures.finds c.find.ensures.leaves
    c.read_status2.ensures.leaves c.in_ok-status2.ensures.does (search rules))

pub returns : goal.returns
returns g c = assumption (returned c.args.named c.in_ok-found.ensures.finds c.find.ensures.leaves
    c.read_status2.ensures.leaves c.in_ok-status2.ensures.does _ _ _ c.read_status2.ensures.polled_ready (search rules)
    c.of-status.ensures c.protected_range.ensures c.is_locked.ensures)
