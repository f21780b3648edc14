use Rattle.nor_serprog.proofs.Framed.{framed_flush}
use Rattle.nor_serprog.proofs.batching.BatchingBus.flush.Goals as goal

pub returns-in-Ok-clause-frames : goal.returns-in-Ok-clause-frames
returns-in-Ok-clause-frames g c start f =
    framed_flush start c.args.self.now.batch c.flush.new.self c.args.self.now.history.exchanges c.flush.ensures.empty
    c.flush.ensures.asked f

pub returns-in-Err-clause-frames : goal.returns-in-Err-clause-frames
returns-in-Err-clause-frames g c start f =
    framed_flush start c.args.self.now.batch c.flush.new.self c.args.self.now.history.exchanges c.flush.ensures.empty
    c.flush.ensures.asked f
