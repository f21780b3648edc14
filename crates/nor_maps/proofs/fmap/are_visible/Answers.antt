use Rattle.std.proofs.Common.{rules, tests}
use Rattle.std.proofs.lemmas.Iterator.{YieldsList-from_slice}
use Rattle.std.proofs.lemmas.Iterator.Search.{all_from_yields_List}
use Rattle.nor_maps.specs.Fmap.{is_visible}
use Rattle.nor_maps.proofs.fmap.are_visible.Goals as goal

pub returns : goal.returns
returns c =
    all_from_yields_List is_visible _ _ c.all.result c.all.ensures.ran
    (YieldsList-from_slice c.args.bytes.now cc) (λ x b q k. search (rules, tests))
