use Rattle.nor_driver.proofs.ReplyBytes.{reads_unique}
use Rattle.nor_driver.proofs.reads.read_unique.Goals as goal

pub returns-clause-does : goal.returns-clause-does
returns-clause-does g c = reads_unique _ _ 0 0 0 0 c.read.new.reply c.read.auto.reply c.in_ok-read.ensures.does
