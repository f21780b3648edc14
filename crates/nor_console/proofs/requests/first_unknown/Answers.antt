use Rattle.std.proofs.Common.{lit<, not, rules}
use Rattle.std.proofs.lemmas.Iterator.Search.{find_from_yields_List}
use Rattle.std.proofs.lemmas.Iterator.Splits.{YieldsList-from_str_split}
use Rattle.nor_layout.specs.Text.{is_region_named}
use Rattle.nor_console.proofs.requests.first_unknown.Goals as goal

pub returns : goal.returns
returns c =
    let split = c.split.ensures in
    find_from_yields_List (λ name. not (is_region_named c.args.regions.now name)) _ _ c.find.result c.find.ensures.ran
    (YieldsList-from_str_split 44 c.args.names.now (lit< tt) split.text split.has_more split.pattern)
    (λ x b q called. search rules)
