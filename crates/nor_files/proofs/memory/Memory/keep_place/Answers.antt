use Rattle.std.proofs.Common.{◌≡◌, is_ok, length, option_map, rules, true}
use Rattle.std.proofs.lemmas.Bool.{cond_both}
use Rattle.nor_files.specs.Named.{is_borrowed_there}
use Rattle.nor_files.proofs.Places.{lent_with_place, place_kept, same_with_place}
use Rattle.nor_files.proofs.memory.Memory.keep_place.Goals as goal

pub invariant_of-self : goal.invariant_of-self
invariant_of-self c = record {
  borrowed_is_there = rw c.push.ensures.items (cond_both (is_ok c.push.result) _ _
      (λ items. is_borrowed_there items (option_map (λ name. name.items) c.args.self.now.borrowed) ≡ true)
      (λ ok. lent_with_place c.args.self.now.files.items c.new-stored.result _ c.args.self.now.borrowed_is_there)
      (λ err. c.args.self.now.borrowed_is_there));
}

pub returns-clause-at : goal.returns-clause-at
returns-clause-at c =
    let at : c.len-at.result ≡ length c.args.self.now.files.items = search rules in
    rw (c.in_ok-push.ensures.items, at) (place_kept c.args.name.now c.args.self.now.files.items c.new-stored.result
    (search rules) (search rules))

pub returns-clause-same : goal.returns-clause-same
returns-clause-same c any =
    rw c.in_ok-push.ensures.items (same_with_place c.args.self.now.files.items c.new-stored.result any c.new-stored.ensures.file)
