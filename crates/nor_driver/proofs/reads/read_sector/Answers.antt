use Rattle.std.proofs.Common.{◌∙◌}
use Rattle.std.proofs.lemmas.Result.{on_ok_weaker}
use Rattle.nor_driver.proofs.ReplyBytes.{reads_sector}
use Rattle.nor_driver.proofs.reads.read_sector.Goals as goal

pub returns-clause-does : goal.returns-clause-does
returns-clause-does g c =
    on_ok_weaker c.read.result (reads_sector _ _ _ _ _ c.args.sector c.read.new.reply c.address_bytes.ensures (c.read.auto.reply ∙ c.requires.whole)) c.read.ensures.does
