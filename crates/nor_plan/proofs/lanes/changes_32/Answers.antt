use Rattle.nor_plan.proofs.Blocks.{ShowsDifferences-xor}
use Rattle.nor_plan.proofs.lanes.changes_32.Goals as goal

pub returns : goal.returns
returns c = ShowsDifferences-xor c.args.a.now c.args.b.now c.args.at c.requires.a_within c.requires.b_within
