use Rattle.std.proofs.Common.{rules, tests}
use Rattle.std.proofs.lemmas.Iterator.{YieldsList-from_slice}
use Rattle.std.proofs.lemmas.Iterator.Search.{any_from_yields_List}
use Rattle.nor_layout.proofs.Sectors.{ends_from, size_cases}
use Rattle.nor_layout.proofs.ranges.Ranges.reaches.Goals as goal

pub returns : goal.returns
returns c =
    let spans = c.args.self.now in
    let ends = any_from_yields_List (ends_from c.args.size) _ _ c.any.result c.any.ensures.ran
    (YieldsList-from_slice spans cc) (λ x b q k. search (rules, tests)) in
    rw ends (size_cases spans c.args.size (rw (← c.self.view_is) c.self.invariant.apart))
