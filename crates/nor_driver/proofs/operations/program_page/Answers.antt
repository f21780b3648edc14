use Rattle.std.proofs.Common.{arith, inl, inr}
use Rattle.std.proofs.lemmas.Result.{IfOk-weaker, on_ok_weaker}
use Rattle.nor_driver.specs.Operations.{IsCommandAt}
use Rattle.nor_driver.proofs.Asks.{asks_program}
use Rattle.nor_driver.proofs.Programming.{leaves_program, sends_program, does_program}
use Rattle.nor_driver.proofs.operations.program_page.Goals as goal
use Rattle.nor_driver.proofs.operations.program_page.Goals.{After-operation}

sent : (g : _) (c : After-operation g) → IsCommandAt 0x02 c.args.address c.args.bytes.now c.deref.result.now
sent g c = rw c.deref.ensures.0 c.program_command-command.ensures

pub operation-requires : goal.operation-requires
operation-requires g c =
    asks_program c.args.address c.args.bytes.now c.deref.result.now c.requires.some
    (omega (arith, c.requires.in_page))
    (rw c.deref.ensures.0 c.program_command-command.ensures)

pub returns-clause-leaves : goal.returns-clause-leaves
returns-clause-leaves g c =
    leaves_program _ _ _ (sent g c) c.requires.some c.requires.in_page _ _ c.operation.ensures.leaves

pub returns-clause-does : goal.returns-clause-does
returns-clause-does g c =
    IfOk-weaker c.operation.result _ _
    (does_program _ _ _ (sent g c) c.requires.some c.requires.in_page _ _) c.operation.ensures.does

pub returns-clause-begins : goal.returns-clause-begins
returns-clause-begins g c = elim c.operation.ensures.begins [
  | inl enabled ↦ inl enabled
  | inr added ↦ inr (sends_program _ _ _ (sent g c) c.requires.some c.requires.in_page _ _ added)
]

pub returns-clause-sends : goal.returns-clause-sends
returns-clause-sends g c =
    on_ok_weaker c.operation.result
    (sends_program _ _ _ (sent g c) c.requires.some c.requires.in_page _ _) c.operation.ensures.sends
