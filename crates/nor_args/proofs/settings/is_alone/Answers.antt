use Rattle.std.proofs.Common.{◌∙◌, arith, lit<, rules}
use Rattle.std.proofs.lemmas.Bool.Decides.{nat_tests}
use Rattle.std.proofs.lemmas.Iterator.Consumers.{count_from_yields_List, YieldsList-at, YieldsList-from_filter}
use Rattle.std.proofs.lemmas.Iterator.Splits.{YieldsList-from_str_split}
use Rattle.std.proofs.lemmas.List.Sums.{length-filter}
use Rattle.nor_args.specs.Programmer.{has_key}
use Rattle.nor_args.specs.Text.{key_of, pieces_of}
use Rattle.nor_args.proofs.settings.is_alone.Goals as goal

pub returns : goal.returns
returns c =
    let split = c.split.ensures in
    let same = has_key (key_of c.args.setting.now) in
    let pieces = YieldsList-from_str_split 44 c.args.list.now (lit< tt) split.text split.has_more split.pattern in
    let counted = count_from_yields_List _ _ c.count.ensures.ran
    (YieldsList-from_filter {s = c.filter.result} _ same (YieldsList-at c.filter.ensures.source pieces)
    c.filter.ensures.closure (λ x b q called. search (rules, c.split_setting.ensures)))
    ∙ length-filter same (pieces_of c.args.list.now) in
    rw counted (grind (arith, nat_tests))
