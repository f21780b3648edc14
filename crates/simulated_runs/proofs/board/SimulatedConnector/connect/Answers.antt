use Rattle.simulated_runs.proofs.Opened.{played}
use Rattle.simulated_runs.proofs.board.SimulatedConnector.connect.Goals as goal

pub returns-clause-finds : goal.returns-clause-finds
returns-clause-finds c = played _ _ _ c.new-port.ensures.state c.in-Ok.ensures c.in_ok-board.ensures.reaches
