use Rattle.serprog_runs.proofs.Undone.{reaches_from}
use Rattle.serprog_runs.proofs.laws.connections_reach_chips.Goals as goal

pub returns : goal.returns
returns c = λ port last inside start reaches ahead fits finds.
    reaches_from port last inside start reaches ahead fits finds
