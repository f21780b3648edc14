use Rattle.std.proofs.Common.{◌∙◌, refl, length-take-le}
use Rattle.std.proofs.lemmas.Result.{on_ok_weaker, on_err_weaker}
use Rattle.nor_buses.proofs.Held.{filled}
use Rattle.nor_buses.proofs.HeldData.{filled_data, block_read}
use Rattle.nor_buses.proofs.ReadsKeep.{read_keeps, read_stops}
use Rattle.nor_buses.proofs.ahead.read_block.Goals as goal

pub returns-clause-read : goal.returns-clause-read
returns-clause-read g c =
    filled c.args.address c.args.len c.to_be_bytes.result c.transfer.new.reply _ c.transfer.result
    (g.B.Bus.state c.args.bus.now) (g.B.Bus.state c.transfer.new.self) c.requires.address c.to_be_bytes.ensures
    (c.transfer.auto.reply ∙ length-take-le c.args.len c.args.block.now c.requires.len) c.transfer.ensures.records

pub returns-clause-stops : goal.returns-clause-stops
returns-clause-stops g c honest =
    on_err_weaker c.transfer.result (λ stops. read_stops refl stops)
    (c.transfer.ensures.stops (block_read _ _ _ _ _ _ _ _ (length-take-le c.args.len c.args.block.now c.requires.len) honest))

pub returns-clause-keeps : goal.returns-clause-keeps
returns-clause-keeps g c honest =
    on_ok_weaker c.transfer.result (λ carries. read_keeps refl carries)
    (c.transfer.ensures.carries (block_read _ _ _ _ _ _ _ _ (length-take-le c.args.len c.args.block.now c.requires.len) honest))

pub returns-clause-same : goal.returns-clause-same
returns-clause-same g c honest =
    on_ok_weaker c.transfer.result
    (filled_data c.args.address c.args.len c.to_be_bytes.result c.transfer.new.reply _
    (g.B.Bus.state c.args.bus.now) (g.B.Bus.state c.transfer.new.self) c.requires.address c.to_be_bytes.ensures
    (c.transfer.auto.reply ∙ length-take-le c.args.len c.args.block.now c.requires.len))
    (c.transfer.ensures.carries (block_read _ _ _ _ _ _ _ _ (length-take-le c.args.len c.args.block.now c.requires.len) honest))
