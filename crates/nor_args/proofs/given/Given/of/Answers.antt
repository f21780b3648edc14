use Rattle.std.proofs.Common.{rules}
use Rattle.clap.proofs.WalkLemmas.{first_value-rows}
use Rattle.nor_args.proofs.given.Given.of.Goals as goal

pub returns : goal.returns
returns c = search (rules, first_value-rows)
