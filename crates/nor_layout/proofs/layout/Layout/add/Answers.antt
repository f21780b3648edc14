use Rattle.std.proofs.Common.{◌≡◌, ◌≤◌, ◌<◌, false, length, arith}
use Rattle.std.proofs.lemmas.Bool.Decides.{nat_tests}
use Rattle.nor_layout.specs.Text.{is_region_named}
use Rattle.nor_layout.proofs.Texts.{push_region}
use Rattle.nor_layout.proofs.layout.Layout.add.Goals as goal

pub invariant_of-self-2 : goal.invariant_of-self-2
invariant_of-self-2 c =
    let regions = c.self.inside.regions.items in
    let region = c.args.region in
    let once : is_region_named regions region.name.items ≡ false = grind (arith, nat_tests) in
    let forward : region.start ≤ region.end = c.requires in
    let room : length regions < 64 = omega arith in
    rw c.in_ok-push.ensures.items (push_region regions region c.self.invariant forward once room)
