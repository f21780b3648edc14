use Rattle.std.proofs.Common.{rules}
use Rattle.nor_serprog.proofs.Framed.{framed_none}
use Rattle.nor_serprog.proofs.batching.BatchingBus.over.Goals as goal

pub returns-clause-frames : goal.returns-clause-frames
returns-clause-frames g c = search (framed_none, rules)
