use Rattle.std.proofs.Common.{arith, rules}
use Rattle.nor_files.proofs.Places.{lent_updated, updated}
use Rattle.nor_files.proofs.memory.MemoryStore.write_over.Goals as goal

pub invariant_of-self-2 : goal.invariant_of-self-2
invariant_of-self-2 c = search (rules, lent_updated)

pub returns : goal.returns
returns c =
    let is = updated c.args.self.now.files.items c.in_ok-at.at c.index_mut.result.now c.write.new.self
    c.index_mut.ensures.value c.write.ensures.name c.args.name.now c.in_ok-at.ensures in
    grind arith
