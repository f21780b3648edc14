use Rattle.std.proofs.Common.{arith}
use Rattle.std.proofs.lemmas.Grind.{common_steps}
use Rattle.flashnor.proofs.Made.{cut_to, length-filled, length-sized}
use Rattle.flashnor.proofs.holding.make_with.Goals as goal

pub returns-in_err-make-clause-others : goal.returns-in_err-make-clause-others
returns-in_err-make-clause-others g c = grind arith

pub returns-in_err-make-clause-amid : goal.returns-in_err-make-clause-amid
returns-in_err-make-clause-amid g c = grind arith

pub returns-in_err-set_len-clause-others : goal.returns-in_err-set_len-clause-others
returns-in_err-set_len-clause-others g c = grind arith

pub returns-in_err-set_len-clause-amid : goal.returns-in_err-set_len-clause-amid
returns-in_err-set_len-clause-amid g c = grind (arith, common_steps)

pub returns-in_err-sync-clause-others : goal.returns-in_err-sync-clause-others
returns-in_err-sync-clause-others g c = grind arith

pub returns-in_err-sync-clause-amid : goal.returns-in_err-sync-clause-amid
returns-in_err-sync-clause-amid g c = grind (arith, common_steps)

pub returns-in_err-write_over-clause-others : goal.returns-in_err-write_over-clause-others
returns-in_err-write_over-clause-others g c = grind arith

pub returns-in_err-write_over-clause-amid : goal.returns-in_err-write_over-clause-amid
returns-in_err-write_over-clause-amid g c = grind (arith, length-sized, length-filled, cut_to)

pub returns-in_err-sync-2-clause-others : goal.returns-in_err-sync-2-clause-others
returns-in_err-sync-2-clause-others g c = grind arith

pub returns-in_err-sync-2-clause-amid : goal.returns-in_err-sync-2-clause-amid
returns-in_err-sync-2-clause-amid g c = grind (arith, length-sized, length-filled, cut_to)

pub returns-in_err-set_len-2-clause-others : goal.returns-in_err-set_len-2-clause-others
returns-in_err-set_len-2-clause-others g c = grind arith

pub returns-in_err-set_len-2-clause-amid : goal.returns-in_err-set_len-2-clause-amid
returns-in_err-set_len-2-clause-amid g c = grind (arith, length-sized, length-filled, cut_to)

pub returns-in_err-sync-3-clause-others : goal.returns-in_err-sync-3-clause-others
returns-in_err-sync-3-clause-others g c = grind arith

pub returns-in_err-sync-3-clause-amid : goal.returns-in_err-sync-3-clause-amid
returns-in_err-sync-3-clause-amid g c = grind (arith, length-sized, length-filled, cut_to)

pub returns-clause-others : goal.returns-clause-others
returns-clause-others g c = grind arith

pub returns-clause-put : goal.returns-clause-put
returns-clause-put g c = grind (arith, cut_to)

pub returns-clause-amid : goal.returns-clause-amid
returns-clause-amid g c = grind (arith, cut_to)
