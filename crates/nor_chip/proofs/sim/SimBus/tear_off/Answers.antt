use Rattle.std.proofs.Common.{rules}
use Rattle.std.proofs.lemmas.List.{take_min}
use Rattle.nor_chip.proofs.sim.SimBus.tear_off.Goals as goal

pub returns-in-Some-clause-worn : goal.returns-in-Some-clause-worn
returns-in-Some-clause-worn c =
    rw c.in-Some.is
    (λ s. search (rules, c.wear.ensures s, c.step-command.ensures.done, c.min.ensures, take_min c.in-Some.count c.args.out.now))
