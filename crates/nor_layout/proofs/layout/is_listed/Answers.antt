use Rattle.std.proofs.Common.{eqb, rules, tests}
use Rattle.std.specs.Str.{bytes_eq}
use Rattle.std.proofs.lemmas.Iterator.Search.{any_from_yields_List}
use Rattle.std.proofs.lemmas.Iterator.Splits.{YieldsList-from_slice_split}
use Rattle.nor_layout.proofs.layout.is_listed.Goals as goal

pub returns : goal.returns
returns c =
    any_from_yields_List (λ listed. bytes_eq c.args.name.now listed) _ _ c.any.result c.any.ensures.ran
    (YieldsList-from_slice_split _ (λ b. eqb b 44) c.args.names.now c.split.ensures.rest c.split.ensures.done c.split.ensures.closure (λ x b q k. search (rules, tests)))
    (λ x b q k. search (rules, tests))
