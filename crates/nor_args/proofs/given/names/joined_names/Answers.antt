use Rattle.std.proofs.Common.{codes, rules}
use Rattle.clap.specs.Words.{found_of}
use Rattle.clap.proofs.WalkLemmas.{raw_values-rows}
use Rattle.nor_args.proofs.Joined.{joined-found}
use Rattle.nor_args.proofs.given.names.joined_names.Goals as goal

pub returns-in_ok-join-in-Some : goal.returns-in_ok-join-in-Some
returns-in_ok-join-in-Some c =
    joined-found (found_of c.args.matches.now) (codes "include") c.in-Some.values.now _ c.in-Some.ensures
    c.in_ok-join-in-Some.ensures.ok

pub returns-in-None : goal.returns-in-None
returns-in-None c = search (rules, raw_values-rows)
