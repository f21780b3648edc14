use Rattle.serprog_runs.proofs.Ahead.{is_ahead}
use Rattle.serprog_board.proofs.Results.{none_ok}
use Rattle.serprog_runs.proofs.connected.connect_by.Goals as goal

pub returns-in_err-device-clause-fresh : goal.returns-in_err-device-clause-fresh
returns-in_err-device-clause-fresh g c = none_ok _ _ c.from_residual.result c.from_residual.ensures.1

pub returns-in-Ok-clause-ahead : goal.returns-in-Ok-clause-ahead
returns-in-Ok-clause-ahead g c =
    rw c.new-bus.ensures
    (is_ahead c.new-ahead.result _ c.new-ahead.ensures.longest
    (rw (c.new-ahead.ensures.bus, c.longest_read-longest_read.ensures) c.in-Ok.ensures.blocks))
