use Rattle.std.proofs.Common.{◌≡◌, ◌∙◌, None, Some, position, rules, sym, true, arith}
use Rattle.nor_files.specs.Named.{is_named, is_there}
use Rattle.nor_files.proofs.Places.{not_there, updated}
use Rattle.nor_files.proofs.memory.MemoryStore.return_vault.Goals as goal

pub returns-in-Some-place-clause-takes : goal.returns-in-Some-place-clause-takes
returns-in-Some-place-clause-takes c lawful name borrowed =
    let was : c.args.self.now.borrowed ≡ Some c.in-Some.name = sym c.replace.ensures.value ∙ c.in-Some.is in
    let named : c.in-Some.name.items ≡ name = search (rules, was, borrowed) in
    let at : position (is_named name) c.args.self.now.files.items ≡ Some c.in-Some-place.at = search (rules, named) in
    let is = updated c.args.self.now.files.items c.in-Some-place.at c.index_mut.result.now c.take_contents.new.self
    c.index_mut.ensures.value c.take_contents.ensures.name name at in
    grind arith

pub returns-in-None-clause-takes : goal.returns-in-None-clause-takes
returns-in-None-clause-takes c lawful name borrowed =
    let was : c.args.self.now.borrowed ≡ Some c.in-Some.name = sym c.replace.ensures.value ∙ c.in-Some.is in
    let there : is_there c.args.self.now.files.items c.in-Some.name.items ≡ true = rw was at c.args.self.now.borrowed_is_there in
    let none : position (is_named c.in-Some.name.items) c.args.self.now.files.items ≡ None = search rules in
    let gone = not_there c.in-Some.name.items c.args.self.now.files.items none in
    absurd cc
