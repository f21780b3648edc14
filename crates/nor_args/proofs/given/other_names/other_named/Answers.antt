use Rattle.std.proofs.Common.{◌∙◌, rules, tests}
use Rattle.std.proofs.lemmas.Iterator.{YieldsList-from_slice}
use Rattle.std.proofs.lemmas.Iterator.Search.{find_from_yields_List}
use Rattle.nor_args.specs.OtherNames.{is_among, other_names, rows_with_names}
use Rattle.nor_args.proofs.given.other_names.other_named.Goals as goal

pub returns : goal.returns
returns c =
    c.copied.ensures
    ∙ find_from_yields_List {all = rows_with_names} (λ other. is_among (other_names other) c.args.text.now) _ _ c.find.result c.find.ensures.ran (YieldsList-from_slice rows_with_names cc) (λ x b q k. search (rules, tests))
