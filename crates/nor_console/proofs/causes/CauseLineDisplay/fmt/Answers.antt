use Rattle.nor_console.proofs.causes.CauseLineDisplay.fmt.Goals as goal

pub returns-in-Role-clause-writes : goal.returns-in-Role-clause-writes
returns-in-Role-clause-writes g c = rw (c.in-Role.is, ← c.role_text-used.ensures) c.writeln-in-Role.ensures.writes
