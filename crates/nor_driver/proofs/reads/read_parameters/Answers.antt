use Rattle.std.proofs.lemmas.Result.{on_ok_weaker}
use Rattle.nor_driver.proofs.ReplyBytes.{reads_sfdp}
use Rattle.nor_driver.proofs.reads.read_parameters.Goals as goal

pub returns-clause-does : goal.returns-clause-does
returns-clause-does g c =
    on_ok_weaker c.read.result (reads_sfdp _ _ _ _ _ c.args.address _ c.read.new.reply c.address_bytes.ensures c.read.auto.reply) c.read.ensures.does
