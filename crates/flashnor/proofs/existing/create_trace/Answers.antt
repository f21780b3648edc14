use Rattle.flashnor.proofs.existing.create_trace.Goals as goal

pub returns-in-Ok-clause-others : goal.returns-in-Ok-clause-others
returns-in-Ok-clause-others g c = λ is name not. c.create_log.ensures.others is name (rw c.in-Some.is at not)

pub returns-in-Err-clause-others : goal.returns-in-Err-clause-others
returns-in-Err-clause-others g c = λ is name not. c.create_log.ensures.others is name (rw c.in-Some.is at not)
