use Rattle.std.proofs.Common.{rules}
use Rattle.clap.proofs.WalkLemmas.{first_value-rows}
use Rattle.nor_args.proofs.given.flags.is_set.Goals as goal

pub returns-in-Some : goal.returns-in-Some
returns-in-Some c = search (rules, first_value-rows)

pub returns-in-None : goal.returns-in-None
returns-in-None c = search (rules, first_value-rows)
