use Rattle.std.proofs.Common.{◌∙◌}
use Rattle.std.proofs.lemmas.Result.{IfOk-weaker, on_ok_weaker}
use Rattle.nor_driver.proofs.Asks.{asks_status}
use Rattle.nor_driver.proofs.StatusBytes.{leaves_status, does_status, sends_status}
use Rattle.nor_driver.proofs.operations.write_status.Goals as goal

pub operation-requires : goal.operation-requires
operation-requires g c = asks_status _ _

pub returns-clause-leaves : goal.returns-clause-leaves
returns-clause-leaves g c =
    leaves_status c.args.status c.args.code c.requires _ _ c.bytes.result (c.bytes.ensures ∙ c.with_code.ensures)
    c.operation.ensures.leaves

pub returns-clause-does : goal.returns-clause-does
returns-clause-does g c =
    IfOk-weaker c.operation.result _ _
    (does_status c.args.status c.args.code c.requires _ _ c.bytes.result (c.bytes.ensures ∙ c.with_code.ensures))
    c.operation.ensures.does

pub returns-clause-sends : goal.returns-clause-sends
returns-clause-sends g c =
    on_ok_weaker c.operation.result
    (sends_status c.args.status c.args.code c.requires (g.B.Bus.state c.args.bus.now)
    (g.B.Bus.state c.operation.new.bus) c.bytes.result (c.bytes.ensures ∙ c.with_code.ensures))
    c.operation.ensures.sends
