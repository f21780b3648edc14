use Rattle.std.proofs.Common.{rules}
use Rattle.serprog_board.proofs.Rates.{rateless_after_colon, rateless_without_colon}
use Rattle.serprog_board.proofs.setting.refuse_rate.Goals as goal

pub returns-in_default : goal.returns-in_default
returns-in_default c = rateless_without_colon c.args.device.now c.in_default.ensures.cases

pub returns-else-is_some : goal.returns-else-is_some
returns-else-is_some c = rateless_after_colon c.args.device.now _ _ c.in-Some.ensures.cases (search rules)
