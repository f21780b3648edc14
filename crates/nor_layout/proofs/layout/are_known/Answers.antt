use Rattle.std.proofs.Common.{eqb, rules, tests}
use Rattle.std.proofs.lemmas.Iterator.Search.{all_from_yields_List}
use Rattle.std.proofs.lemmas.Iterator.Splits.{YieldsList-from_slice_split}
use Rattle.nor_layout.specs.Text.{is_region_named}
use Rattle.nor_layout.proofs.layout.are_known.Goals as goal

pub returns : goal.returns
returns c =
    all_from_yields_List (λ name. is_region_named c.args.regions.now name) _ _ c.all.result c.all.ensures.ran
    (YieldsList-from_slice_split _ (λ b. eqb b 44) c.args.names.now c.split.ensures.rest c.split.ensures.done c.split.ensures.closure (λ x b q k. search (rules, tests)))
    (λ x b q k. search (rules, tests))
