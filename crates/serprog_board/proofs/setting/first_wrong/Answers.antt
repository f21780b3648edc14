use Rattle.std.proofs.Common.{lit<, rules}
use Rattle.std.proofs.lemmas.Iterator.Search.{find_from_yields_List}
use Rattle.std.proofs.lemmas.Iterator.Splits.{YieldsList-from_str_split}
use Rattle.nor_args.specs.Text.{pieces_of}
use Rattle.serprog_board.specs.Setting.{is_wrong}
use Rattle.serprog_board.proofs.setting.first_wrong.Goals as goal

pub returns : goal.returns
returns c =
    let split = c.split.ensures in
    find_from_yields_List (is_wrong (pieces_of c.args.list.now)) _ _ c.find.result
    c.find.ensures.ran (YieldsList-from_str_split 44 c.args.list.now (lit< tt) split.text split.has_more split.pattern)
    (λ x b q called. search rules)
