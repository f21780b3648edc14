use Rattle.std.proofs.Common.{◌∙◌, ◌≤◌, rules}
use Rattle.nor_geometry.proofs.Sizes.{is_power_of_two-size}
use Rattle.nor_geometry.proofs.limits.is_chip_size.Goals as goal

pub returns-then-matches : goal.returns-then-matches
returns-then-matches c =
    let least : 65536 ≤ c.args.size = search rules in
    let most : c.args.size ≤ 16777216 = search rules in
    c.is_power_of_two.ensures ∙ is_power_of_two-size c.args.size least most
