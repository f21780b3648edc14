use Rattle.std.proofs.Common.{arith, rules, ◌≡◌}
use Rattle.nor_files.specs.Stored.{file_in, seen_may_be}
use Rattle.nor_files.proofs.Places.{lent_updated, updated, updated_since}
use Rattle.nor_files.proofs.memory.MemoryStore.make.Goals as goal

pub invariant_of-self-2 : goal.invariant_of-self-2
invariant_of-self-2 c =
    let name : c.make.new.self.name ≡ c.index_mut.result.now.name = grind (arith, c.make.ensures) in
    search (rules, lent_updated)

pub returns : goal.returns
returns c =
    let was = c.index_mut.result.now in
    let name : c.make.new.self.name ≡ c.index_mut.result.now.name = grind (arith, c.make.ensures) in
    let is = updated_since c.in_ok-at.ensures.same (updated c.keep_place.new.self.files.items c.in_ok-at.at was
    c.make.new.self c.index_mut.ensures.value name c.args.name.now c.in_ok-at.ensures.at) in
    let seen = seen_may_be was.steps.items (file_in was).seen in
    grind arith
