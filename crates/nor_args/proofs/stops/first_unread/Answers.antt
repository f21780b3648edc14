use Rattle.std.proofs.Common.{lit<, not, rules}
use Rattle.std.proofs.lemmas.Iterator.Search.{find_from_yields_List}
use Rattle.std.proofs.lemmas.Iterator.Splits.{YieldsList-from_str_split}
use Rattle.nor_args.specs.Numbers.{decimal_number}
use Rattle.nor_args.specs.Text.{reads}
use Rattle.nor_args.proofs.stops.first_unread.Goals as goal

pub returns : goal.returns
returns c =
    let split = c.split.ensures in
    find_from_yields_List (λ part. not (reads decimal_number part)) _ _ c.find.result c.find.ensures.ran
    (YieldsList-from_str_split 44 c.args.text.now (lit< tt) split.text split.has_more split.pattern)
    (λ x b q called. search rules)
