use Rattle.std.proofs.Common.{◌≡◌, length, rules, arith}
use Rattle.nor_plan.specs.SectorSet.{has}
use Rattle.nor_plan.proofs.Words.{bit_of-with_bit}
use Rattle.nor_plan.proofs.set.SectorSet.insert.Goals as goal

pub returns : goal.returns
unfolding has
returns c =
    let words : length c.args.self.now.words ≡ 64 = search rules in
    bit_of-with_bit c.args.self.now.words c.args.sector (omega arith)
