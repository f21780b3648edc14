use Rattle.std.proofs.Common.{◌≡◌, is_some, refl, rules}
use Rattle.nor_files.proofs.Losses.{oldest_allowed}
use Rattle.nor_files.proofs.stored.Stored.forget.Goals as goal

pub returns-then-is_some : goal.returns-then-is_some
returns-then-is_some c =
    let there : is_some c.in-Some.oldest.before ≡ is_some c.args.self.now.content = search rules in
    record {
      name = refl;
      allowed = oldest_allowed c.args.self.now c.pop.new.self.items c.in-Some.oldest c.if-self.false (search rules) there;
    }
