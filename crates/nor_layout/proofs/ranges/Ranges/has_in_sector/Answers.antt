use Rattle.std.proofs.Common.{◌∙◌, ◌+◌, ◌*◌, rules, tests}
use Rattle.std.proofs.lemmas.Iterator.{YieldsList-from_slice}
use Rattle.std.proofs.lemmas.Iterator.Search.{any_from_yields_List}
use Rattle.nor_geometry.proofs.Below.{any_below-cases}
use Rattle.nor_layout.specs.Ranges.{contains}
use Rattle.nor_layout.proofs.Sectors.{is_in_sector, in_sector-is}
use Rattle.nor_layout.proofs.ranges.Ranges.has_in_sector.Goals as goal

pub returns : goal.returns
returns c =
    let spans = c.args.self.now in
    let test = any_from_yields_List (is_in_sector c.args.sector) _ _ c.any.result c.any.ensures.ran
    (YieldsList-from_slice spans cc) (λ x b q k. search (rules, tests))
    ∙ in_sector-is spans c.args.sector (rw (← c.self.view_is) c.self.invariant.apart) in
    record { test = test; cases = rw test (any_below-cases 4096 (λ i. contains spans (4096 * c.args.sector + i))) }
