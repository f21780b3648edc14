use Rattle.std.proofs.Common.{refl}
use Rattle.std.proofs.lemmas.Bool.{eq-eqb}
use Rattle.nor_model.proofs.LeastCodes.{least_found}
use Rattle.nor_model.proofs.guard.least_at.Goals as goal

pub returns-else-eq-clause-none : goal.returns-else-eq-clause-none
returns-else-eq-clause-none c = λ start len least.
    let found = least_found _ c.args.code start len _ _ c.code_for.result c.code_for.ensures.least
    c.code_for.ensures.none c.addresses_of-range.ensures.protects least in
    let alone = rw found at c.if-eq.ensures in
    let same = eq-eqb c.args.code c.args.code refl in cc
