use Rattle.std.proofs.Common.{◌∙◌, Some, ap, codes, option_map, rules}
use Rattle.clap.specs.Words.{found_of}
use Rattle.clap.proofs.WalkLemmas.{first_value-rows}
use Rattle.nor_args.specs.Job.{name_in_any_case}
use Rattle.nor_args.specs.OtherNames.{row_named}
use Rattle.nor_args.proofs.given.names.chip_named.Goals as goal

pub returns-in_ok-to_ascii_uppercase-in-Some : goal.returns-in_ok-to_ascii_uppercase-in-Some
returns-in_ok-to_ascii_uppercase-in-Some c =
    ap Some (c.row_named.ensures ∙ ap row_named (c.deref.ensures ∙ c.in_ok-to_ascii_uppercase-in-Some.ensures.ok))
    ∙ ap (option_map name_in_any_case) (c.in-Some.ensures ∙ first_value-rows (found_of c.args.matches.now) (codes "chip"))

pub returns-in-None : goal.returns-in-None
returns-in-None c = search (rules, first_value-rows)
