use Rattle.std.proofs.Common.{rules, arith, ◌≡◌}
use Rattle.nor_files.proofs.Places.{lent_updated, updated, updated_since}
use Rattle.nor_files.proofs.memory.Memory.lend.Goals as goal

pub invariant_of-self-2 : goal.invariant_of-self-2
invariant_of-self-2 c =
    let name : c.lend.new.self.name ≡ c.index_mut.result.now.name = grind (arith, c.lend.ensures) in
    search (rules, lent_updated)

pub returns : goal.returns
returns c =
    let name : c.lend.new.self.name ≡ c.index_mut.result.now.name = grind (arith, c.lend.ensures) in
    let is = updated_since c.in_ok-at.ensures.same (updated c.keep_place.new.self.files.items c.in_ok-at.at
    c.index_mut.result.now c.lend.new.self c.index_mut.ensures.value name c.args.name.now c.in_ok-at.ensures.at) in
    grind arith
