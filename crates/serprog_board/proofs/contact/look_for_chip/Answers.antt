use Rattle.std.proofs.Common.{rules}
use Rattle.serprog_board.proofs.Looking.{fails, goes_on, looked, returns_any}
use Rattle.serprog_board.proofs.contact.look_for_chip.Goals as goal

pub returns-in_err-has_id-clause-looks : goal.returns-in_err-has_id-clause-looks
returns-in_err-has_id-clause-looks g c awaits was =
    fails c.from_residual.result _ c.from_residual.ensures.1
    (goes_on (c.loop.invariant.looks awaits was) c.in_err-has_id.ensures.looks)

pub returns-in_err-returns_status-clause-looks : goal.returns-in_err-returns_status-clause-looks
returns-in_err-returns_status-clause-looks g c awaits was =
    fails c.from_residual-in_err-returns_status.result _ c.from_residual-in_err-returns_status.ensures.1
    (goes_on (looked (goes_on (c.loop.invariant.looks awaits was) c.in_ok-has_id.ensures.looks))
    c.in_err-returns_status.ensures.looks)

pub returns-then-branch-clause-looks : goal.returns-then-branch-clause-looks
returns-then-branch-clause-looks g c awaits was =
    returns_any _
    (looked
    (goes_on (looked (goes_on (c.loop.invariant.looks awaits was) c.in_ok-has_id.ensures.looks))
    c.in_ok-returns_status.ensures.looks))

pub loop-preserved : goal.loop-preserved
loop-preserved g c = record {
  harmless = search rules;
  nature = search rules;
  looks = λ awaits was. looked
      (goes_on (looked (goes_on (c.loop.invariant.looks awaits was) c.in_ok-has_id.ensures.looks))
      c.in_ok-returns_status.ensures.looks);
}

pub returns-in_err-returns_sfdp-clause-looks : goal.returns-in_err-returns_sfdp-clause-looks
returns-in_err-returns_sfdp-clause-looks g c awaits was =
    fails c.from_residual-in_err-returns_sfdp.result _ c.from_residual-in_err-returns_sfdp.ensures.1
    (goes_on (c.loop.invariant.looks awaits was) c.in_err-returns_sfdp.ensures.looks)

pub returns-in-true-clause-looks : goal.returns-in-true-clause-looks
returns-in-true-clause-looks g c awaits was =
    returns_any _ (looked (goes_on (c.loop.invariant.looks awaits was) c.in_ok-returns_sfdp.ensures.looks))

pub returns-in-false-clause-looks : goal.returns-in-false-clause-looks
returns-in-false-clause-looks g c awaits was =
    returns_any _ (looked (goes_on (c.loop.invariant.looks awaits was) c.in_ok-returns_sfdp.ensures.looks))

pub returns-in_err-leave_modes-clause-looks : goal.returns-in_err-leave_modes-clause-looks
returns-in_err-leave_modes-clause-looks g c awaits was =
    fails c.from_residual-in_err-leave_modes.result _ c.from_residual-in_err-leave_modes.ensures.1
    (goes_on (c.loop.invariant.looks awaits was) c.in_err-leave_modes.ensures.looks)

pub returns-in_err-returns_id-clause-looks : goal.returns-in_err-returns_id-clause-looks
returns-in_err-returns_id-clause-looks g c awaits was =
    fails c.from_residual-in_err-returns_id.result _ c.from_residual-in_err-returns_id.ensures.1
    (goes_on (looked (goes_on (c.loop.invariant.looks awaits was) c.in_ok-leave_modes.ensures.looks))
    c.in_err-returns_id.ensures.looks)

pub returns-in-true-2-clause-looks : goal.returns-in-true-2-clause-looks
returns-in-true-2-clause-looks g c awaits was =
    returns_any _
    (looked
    (goes_on (looked (goes_on (c.loop.invariant.looks awaits was) c.in_ok-leave_modes.ensures.looks))
    c.in_ok-returns_id.ensures.looks))

pub returns-in-false-2-clause-looks : goal.returns-in-false-2-clause-looks
returns-in-false-2-clause-looks g c awaits was =
    returns_any _
    (looked
    (goes_on (looked (goes_on (c.loop.invariant.looks awaits was) c.in_ok-leave_modes.ensures.looks))
    c.in_ok-returns_id.ensures.looks))
