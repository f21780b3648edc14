use Rattle.std.proofs.Common.{arith}
use Rattle.flashnor.proofs.Made.{cut_to, with_its_length}
use Rattle.flashnor.proofs.holding.write_over.Goals as goal

pub returns-in_err-write_over-clause-others : goal.returns-in_err-write_over-clause-others
returns-in_err-write_over-clause-others g c = grind arith

pub returns-in_err-write_over-clause-amid : goal.returns-in_err-write_over-clause-amid
returns-in_err-write_over-clause-amid g c = grind (arith, with_its_length, cut_to)

pub returns-in_err-set_len-clause-others : goal.returns-in_err-set_len-clause-others
returns-in_err-set_len-clause-others g c = grind arith

pub returns-in_err-set_len-clause-amid : goal.returns-in_err-set_len-clause-amid
returns-in_err-set_len-clause-amid g c = grind (arith, with_its_length, cut_to)

pub returns-clause-others : goal.returns-clause-others
returns-clause-others g c = grind arith

pub returns-clause-amid : goal.returns-clause-amid
returns-clause-amid g c = grind (arith, with_its_length, cut_to)
