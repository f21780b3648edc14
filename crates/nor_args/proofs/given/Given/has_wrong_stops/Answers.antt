use Rattle.std.proofs.Common.{arith}
use Rattle.std.proofs.lemmas.Bool.Decides.{nat_tests}
use Rattle.nor_args.proofs.given.Given.has_wrong_stops.Goals as goal

pub returns-then-is_none : goal.returns-then-is_none
returns-then-is_none c = grind (arith, nat_tests)

pub returns-else-is_none : goal.returns-else-is_none
returns-else-is_none c = grind (arith, nat_tests)
