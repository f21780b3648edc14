use Rattle.std.proofs.Common.{rules, arith}
use Rattle.nor_files.proofs.Places.{lent_updated, updated, updated_since}
use Rattle.nor_files.proofs.memory.Memory.put.Goals as goal

pub invariant_of-self : goal.invariant_of-self
invariant_of-self c = search (rules, lent_updated)

pub returns : goal.returns
returns c =
    let is = updated_since c.in_ok-at.ensures.same (updated c.keep_place.new.self.files.items c.in_ok-at.at
    c.index_mut.result.now c.settle.new.self c.index_mut.ensures.value c.settle.ensures.name c.args.name.now
    c.in_ok-at.ensures.at) in
    grind arith
