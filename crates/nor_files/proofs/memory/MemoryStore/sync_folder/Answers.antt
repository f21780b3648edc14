use Rattle.std.proofs.Common.{rules, arith}
use Rattle.nor_files.proofs.Places.{lent_updated, not_found, updated}
use Rattle.nor_files.proofs.Syncs.{all_placed}
use Rattle.nor_files.proofs.memory.MemoryStore.sync_folder.Goals as goal

pub invariant_of-self-in-Some : goal.invariant_of-self-in-Some
invariant_of-self-in-Some c = search (rules, lent_updated)

pub returns-in-Some-clause-alone : goal.returns-in-Some-clause-alone
returns-in-Some-clause-alone c =
    let is = updated c.args.self.now.files.items c.in-Some.at c.index_mut.result.now c.place-in-Some.new.self
    c.index_mut.ensures.value c.place-in-Some.ensures.name c.args.name.now (search rules) in
    grind arith

pub returns-in-Some-clause-stay : goal.returns-in-Some-clause-stay
returns-in-Some-clause-stay c = λ any known.
    let is = updated c.args.self.now.files.items c.in-Some.at c.index_mut.result.now c.place-in-Some.new.self
    c.index_mut.ensures.value c.place-in-Some.ensures.name c.args.name.now (search rules) in
    let stays = all_placed is c.place-in-Some.ensures any in
    record { out = stays.out; seen = stays.seen; leaves = stays.leaves }

pub returns-in-Some-clause-places : goal.returns-in-Some-clause-places
returns-in-Some-clause-places c =
    let is = updated c.args.self.now.files.items c.in-Some.at c.index_mut.result.now c.place-in-Some.new.self
    c.index_mut.ensures.value c.place-in-Some.ensures.name c.args.name.now (search rules) in
    grind arith

pub returns-in-None-clause-places : goal.returns-in-None-clause-places
returns-in-None-clause-places c known =
    let none = not_found c.args.name.now c.args.self.now.files.items (search rules) in
    grind arith
