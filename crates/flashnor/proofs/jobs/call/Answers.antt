use Rattle.flashnor.proofs.jobs.call.Goals as goal

pub returns-clause-ok : goal.returns-clause-ok
returns-clause-ok g c = λ ready. rw c.of_traced.ensures.came (
    rw (← c.new-traced.ensures.state, c.of_traced.ensures.bus)
    (c.in_ok-outcome-2.ensures.ok (rw c.new-traced.ensures.state ready))
    )
