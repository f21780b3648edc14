use Rattle.std.proofs.Common.{◌&&◌, lit<, rules}
use Rattle.std.proofs.lemmas.Iterator.Search.{all_from_yields_List}
use Rattle.std.proofs.lemmas.Iterator.Splits.{YieldsList-from_str_split}
use Rattle.nor_args.specs.Programmer.{is_alone_in, is_setting}
use Rattle.nor_args.specs.Text.{pieces_of}
use Rattle.nor_args.proofs.flaws.are_settings.Goals as goal

pub returns : goal.returns
returns c =
    let split = c.split.ensures in
    let pieces = pieces_of c.args.list.now in
    all_from_yields_List (λ setting. is_setting setting && is_alone_in pieces setting) _ _ c.all.result
    c.all.ensures.ran (YieldsList-from_str_split 44 c.args.list.now (lit< tt) split.text split.has_more split.pattern)
    (λ x b q called. search rules)
