use Rattle.nor_serprog.proofs.Harmless.{harmless_sync}
use Rattle.nor_serprog.proofs.handshake.synchronize.Goals as goal

pub returns-in-Ok-clause-harmless : goal.returns-in-Ok-clause-harmless
returns-in-Ok-clause-harmless g c = harmless_sync _ _ c.synchronize.ensures.asked

pub returns-in-Err-clause-harmless : goal.returns-in-Err-clause-harmless
returns-in-Err-clause-harmless g c = harmless_sync _ _ c.synchronize.ensures.asked
