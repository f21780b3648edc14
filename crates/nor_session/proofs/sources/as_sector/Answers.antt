use Rattle.std.proofs.Common.{rules}
use Rattle.nor_session.proofs.sources.as_sector.Goals as goal

pub returns-clause-small : goal.returns-clause-small
returns-clause-small c = λ k. let fits = c.type_inv.bytes k in search rules
