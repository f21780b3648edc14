use Rattle.std.proofs.Common.{rules}
use Rattle.nor_args.proofs.Numerals.{range_of-uncut}
use Rattle.nor_args.proofs.numbers.read_range.Goals as goal

pub returns-in_err-start : goal.returns-in_err-start
returns-in_err-start c = search (rules, range_of-uncut)
