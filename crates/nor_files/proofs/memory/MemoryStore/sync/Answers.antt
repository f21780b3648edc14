use Rattle.std.proofs.Common.{arith, rules}
use Rattle.nor_files.proofs.Places.{lent_updated, updated}
use Rattle.nor_files.proofs.Syncs.{all_synced}
use Rattle.nor_files.proofs.memory.MemoryStore.sync.Goals as goal

pub invariant_of-self-2 : goal.invariant_of-self-2
invariant_of-self-2 c = search (rules, lent_updated)

pub returns-clause-alone : goal.returns-clause-alone
returns-clause-alone c =
    let is = updated c.args.self.now.files.items c.in_ok-at.at c.index_mut.result.now c.sync.new.self
    c.index_mut.ensures.value c.sync.ensures.name c.args.name.now c.in_ok-at.ensures in
    grind arith

pub returns-clause-stay : goal.returns-clause-stay
returns-clause-stay c = λ any known.
    let is = updated c.args.self.now.files.items c.in_ok-at.at c.index_mut.result.now c.sync.new.self
    c.index_mut.ensures.value c.sync.ensures.name c.args.name.now c.in_ok-at.ensures in
    let stays = all_synced is c.sync.ensures any in
    record { out = stays.out; seen = stays.seen; leaves = stays.leaves }

pub returns-clause-no_more : goal.returns-clause-no_more
returns-clause-no_more c = λ lawful any.
    let is = updated c.args.self.now.files.items c.in_ok-at.at c.index_mut.result.now c.sync.new.self
    c.index_mut.ensures.value c.sync.ensures.name c.args.name.now c.in_ok-at.ensures in
    (all_synced is c.sync.ensures any).leaves

pub returns-clause-syncs : goal.returns-clause-syncs
returns-clause-syncs c =
    let is = updated c.args.self.now.files.items c.in_ok-at.at c.index_mut.result.now c.sync.new.self
    c.index_mut.ensures.value c.sync.ensures.name c.args.name.now c.in_ok-at.ensures in
    grind arith
