use Rattle.std.proofs.Common.{lit<, rules}
use Rattle.std.proofs.lemmas.Iterator.Search.{any_from_yields_List}
use Rattle.std.proofs.lemmas.Iterator.Splits.{YieldsList-from_str_split}
use Rattle.nor_args.specs.Faults.{has_dash}
use Rattle.nor_args.proofs.given.dashes.lists_dash.Goals as goal

pub returns : goal.returns
returns c =
    let split = c.split.ensures in
    any_from_yields_List has_dash _ _ c.any.result
    c.any.ensures.ran (YieldsList-from_str_split 44 c.args.list.now (lit< tt) split.text split.has_more split.pattern)
    (λ x b q called. search rules)
