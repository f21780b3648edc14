use Rattle.serprog_board.proofs.Looking.{fails, goes_on, goes_on_with, looked, returns_any}
use Rattle.serprog_board.proofs.reaching.reach_chip.Goals as goal

pub returns-in_err-select-clause-looks : goal.returns-in_err-select-clause-looks
returns-in_err-select-clause-looks g c awaits whole =
    let first = looked (c.in_ok-programmer.ensures.looks awaits whole) in
    let reported = c.in_ok-programmer.ensures.reported awaits whole in
    fails c.from_residual-in_err-select.result _ c.from_residual-in_err-select.ensures.1
    (goes_on_with first reported c.in_err-select.ensures.looks)

pub returns-in_err-woken-clause-looks : goal.returns-in_err-woken-clause-looks
returns-in_err-woken-clause-looks g c awaits whole =
    let first = looked (c.in_ok-programmer.ensures.looks awaits whole) in
    let reported = c.in_ok-programmer.ensures.reported awaits whole in
    let second = looked (goes_on_with first reported c.in_ok-select.ensures.looks) in
    fails c.from_residual-in_err-woken.result _ c.from_residual-in_err-woken.ensures.1
    (goes_on second c.in_err-woken.ensures.looks)

pub returns-in_err-expect_chip-clause-looks : goal.returns-in_err-expect_chip-clause-looks
returns-in_err-expect_chip-clause-looks g c awaits whole =
    let first = looked (c.in_ok-programmer.ensures.looks awaits whole) in
    let reported = c.in_ok-programmer.ensures.reported awaits whole in
    let second = looked (goes_on_with first reported c.in_ok-select.ensures.looks) in
    let third = looked (goes_on second c.in_ok-woken.ensures.looks) in
    fails c.from_residual-in_err-expect_chip.result _ c.from_residual-in_err-expect_chip.ensures.1
    (goes_on third c.in_err-expect_chip.ensures.looks)

pub returns-in_err-try_reads-clause-looks : goal.returns-in_err-try_reads-clause-looks
returns-in_err-try_reads-clause-looks g c awaits whole =
    let first = looked (c.in_ok-programmer.ensures.looks awaits whole) in
    let reported = c.in_ok-programmer.ensures.reported awaits whole in
    let second = looked (goes_on_with first reported c.in_ok-select.ensures.looks) in
    let third = looked (goes_on second c.in_ok-woken.ensures.looks) in
    let fourth = looked (goes_on third c.in_ok-expect_chip.ensures.looks) in
    fails c.from_residual-in_err-try_reads.result _ c.from_residual-in_err-try_reads.ensures.1
    (goes_on fourth c.in_err-try_reads.ensures.looks)

pub returns-in_err-expect_chip-2-clause-looks : goal.returns-in_err-expect_chip-2-clause-looks
returns-in_err-expect_chip-2-clause-looks g c awaits whole =
    let first = looked (c.in_ok-programmer.ensures.looks awaits whole) in
    let reported = c.in_ok-programmer.ensures.reported awaits whole in
    let second = looked (goes_on_with first reported c.in_ok-select.ensures.looks) in
    let third = looked (goes_on second c.in_ok-woken.ensures.looks) in
    let fourth = looked (goes_on third c.in_ok-expect_chip.ensures.looks) in
    let fifth = looked (goes_on fourth c.in_ok-try_reads.ensures.looks) in
    fails c.from_residual-in_err-expect_chip-2.result _ c.from_residual-in_err-expect_chip-2.ensures.1
    (goes_on fifth c.in_err-expect_chip-2.ensures.looks)

pub returns-clause-looks : goal.returns-clause-looks
returns-clause-looks g c awaits whole =
    let first = looked (c.in_ok-programmer.ensures.looks awaits whole) in
    let reported = c.in_ok-programmer.ensures.reported awaits whole in
    let second = looked (goes_on_with first reported c.in_ok-select.ensures.looks) in
    let third = looked (goes_on second c.in_ok-woken.ensures.looks) in
    let fourth = looked (goes_on third c.in_ok-expect_chip.ensures.looks) in
    let fifth = looked (goes_on fourth c.in_ok-try_reads.ensures.looks) in
    let sixth = looked (goes_on fifth c.in_ok-expect_chip-2.ensures.looks) in
    returns_any _ sixth
