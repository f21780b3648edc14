use Rattle.std.proofs.Common.{arith}
use Rattle.nor_files.specs.Stored.{file_in, seen_may_stay}
use Rattle.nor_files.proofs.stored.Stored.lose.Goals as goal

pub returns : goal.returns
returns c = let stay = seen_may_stay (file_in c.args.self.now) in grind arith
