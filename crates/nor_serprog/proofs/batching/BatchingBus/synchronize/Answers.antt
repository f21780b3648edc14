use Rattle.nor_serprog.proofs.Framed.{framed_sync}
use Rattle.nor_serprog.proofs.batching.BatchingBus.synchronize.Goals as goal

pub returns-clause-frames : goal.returns-clause-frames
returns-clause-frames g c start f =
    framed_sync start c.args.self.now.batch c.synchronize.new.self c.args.self.now.history.exchanges
    c.synchronize.ensures.waits c.synchronize.ensures.asked f
