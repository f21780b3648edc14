use Rattle.std.proofs.Common.{◌∙◌}
use Rattle.std.proofs.lemmas.Result.{IfOk-weaker, on_ok_weaker}
use Rattle.nor_driver.proofs.Erasing.{chip_bytes, other_bytes, leaves_erase, does_erase, sends_erase}
use Rattle.nor_driver.proofs.Asks.{asks_erase}
use Rattle.nor_driver.proofs.operations.erase.Goals as goal

pub operation-requires-in_default : goal.operation-requires-in_default
operation-requires-in_default g c =
    asks_erase c.args.erase.unit _ _ _ _
    (other_bytes c.args.erase.unit _ _ _ _ c.opcode-opcode.ensures c.in_default.not-Chip)

pub returns-in-Chip-clause-leaves : goal.returns-in-Chip-clause-leaves
returns-in-Chip-clause-leaves g c =
    leaves_erase c.args.erase _ _ _ (c.address_bytes.ensures ∙ c.address-address.ensures) c.requires.reachable _ _ _
    (chip_bytes c.args.erase.unit _ _ _ _ c.opcode-opcode.ensures c.in-Chip.is) c.operation.ensures.leaves

pub returns-in-Chip-clause-does : goal.returns-in-Chip-clause-does
returns-in-Chip-clause-does g c =
    IfOk-weaker c.operation.result _ _
    (does_erase c.args.erase _ _ _ (c.address_bytes.ensures ∙ c.address-address.ensures) c.requires.reachable _ _ _
    (chip_bytes c.args.erase.unit _ _ _ _ c.opcode-opcode.ensures c.in-Chip.is)) c.operation.ensures.does

pub returns-in_default-clause-leaves : goal.returns-in_default-clause-leaves
returns-in_default-clause-leaves g c =
    leaves_erase c.args.erase _ _ _ (c.address_bytes.ensures ∙ c.address-address.ensures) c.requires.reachable _ _ _
    (other_bytes c.args.erase.unit _ _ _ _ c.opcode-opcode.ensures c.in_default.not-Chip)
    c.operation-in_default.ensures.leaves

pub returns-in_default-clause-does : goal.returns-in_default-clause-does
returns-in_default-clause-does g c =
    IfOk-weaker c.operation-in_default.result _ _
    (does_erase c.args.erase _ _ _ (c.address_bytes.ensures ∙ c.address-address.ensures) c.requires.reachable _ _ _
    (other_bytes c.args.erase.unit _ _ _ _ c.opcode-opcode.ensures c.in_default.not-Chip))
    c.operation-in_default.ensures.does

pub returns-in-Chip-clause-sends : goal.returns-in-Chip-clause-sends
returns-in-Chip-clause-sends g c =
    on_ok_weaker c.operation.result
    (sends_erase c.args.erase _ _ _ (c.address_bytes.ensures ∙ c.address-address.ensures) c.requires.reachable _ _ _
    (chip_bytes c.args.erase.unit _ _ _ _ c.opcode-opcode.ensures c.in-Chip.is)) c.operation.ensures.sends

pub returns-in_default-clause-sends : goal.returns-in_default-clause-sends
returns-in_default-clause-sends g c =
    on_ok_weaker c.operation-in_default.result
    (sends_erase c.args.erase _ _ _ (c.address_bytes.ensures ∙ c.address-address.ensures) c.requires.reachable _ _ _
    (other_bytes c.args.erase.unit _ _ _ _ c.opcode-opcode.ensures c.in_default.not-Chip))
    c.operation-in_default.ensures.sends
