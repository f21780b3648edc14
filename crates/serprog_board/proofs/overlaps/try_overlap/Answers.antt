use Rattle.serprog_board.proofs.Looking.{fails, goes_on, looked, returns_any}
use Rattle.serprog_board.proofs.overlaps.try_overlap.Goals as goal

pub returns-in_err-read-2-clause-looks : goal.returns-in_err-read-2-clause-looks
returns-in_err-read-2-clause-looks g c awaits was =
    let first = looked (c.in_ok-read.ensures.looks awaits was) in
    fails c.from_residual-in_err-read-2.result _ c.from_residual-in_err-read-2.ensures.1
    (goes_on first c.in_err-read-2.ensures.looks)

pub returns-then-is_varied-clause-looks : goal.returns-then-is_varied-clause-looks
returns-then-is_varied-clause-looks g c awaits was =
    let first = looked (c.in_ok-read.ensures.looks awaits was) in
    let second = looked (goes_on first c.in_ok-read-2.ensures.looks) in
    returns_any _ second

pub returns-else-is_varied-clause-looks : goal.returns-else-is_varied-clause-looks
returns-else-is_varied-clause-looks g c awaits was =
    let first = looked (c.in_ok-read.ensures.looks awaits was) in
    let second = looked (goes_on first c.in_ok-read-2.ensures.looks) in
    returns_any _ second

pub returns-in_err-read-3-clause-looks : goal.returns-in_err-read-3-clause-looks
returns-in_err-read-3-clause-looks g c awaits was =
    let first = looked (c.in_ok-read.ensures.looks awaits was) in
    let second = looked (goes_on first c.in_ok-read-2.ensures.looks) in
    fails c.from_residual-in_err-read-3.result _ c.from_residual-in_err-read-3.ensures.1
    (goes_on second c.in_err-read-3.ensures.looks)

pub returns-then-ne-clause-looks : goal.returns-then-ne-clause-looks
returns-then-ne-clause-looks g c awaits was =
    let first = looked (c.in_ok-read.ensures.looks awaits was) in
    let second = looked (goes_on first c.in_ok-read-2.ensures.looks) in
    let third = looked (goes_on second c.in_ok-read-3.ensures.looks) in
    returns_any _ third

pub returns-in_err-read-4-clause-looks : goal.returns-in_err-read-4-clause-looks
returns-in_err-read-4-clause-looks g c awaits was =
    let first = looked (c.in_ok-read.ensures.looks awaits was) in
    let second = looked (goes_on first c.in_ok-read-2.ensures.looks) in
    let third = looked (goes_on second c.in_ok-read-3.ensures.looks) in
    fails c.from_residual-in_err-read-4.result _ c.from_residual-in_err-read-4.ensures.1
    (goes_on third c.in_err-read-4.ensures.looks)

pub returns-then-ne-2-clause-looks : goal.returns-then-ne-2-clause-looks
returns-then-ne-2-clause-looks g c awaits was =
    let first = looked (c.in_ok-read.ensures.looks awaits was) in
    let second = looked (goes_on first c.in_ok-read-2.ensures.looks) in
    let third = looked (goes_on second c.in_ok-read-3.ensures.looks) in
    let fourth = looked (goes_on third c.in_ok-read-4.ensures.looks) in
    returns_any _ fourth

pub returns-then-are_alike-clause-looks : goal.returns-then-are_alike-clause-looks
returns-then-are_alike-clause-looks g c awaits was =
    let first = looked (c.in_ok-read.ensures.looks awaits was) in
    let second = looked (goes_on first c.in_ok-read-2.ensures.looks) in
    let third = looked (goes_on second c.in_ok-read-3.ensures.looks) in
    let fourth = looked (goes_on third c.in_ok-read-4.ensures.looks) in
    returns_any _ fourth

pub returns-else-are_alike-clause-looks : goal.returns-else-are_alike-clause-looks
returns-else-are_alike-clause-looks g c awaits was =
    let first = looked (c.in_ok-read.ensures.looks awaits was) in
    let second = looked (goes_on first c.in_ok-read-2.ensures.looks) in
    let third = looked (goes_on second c.in_ok-read-3.ensures.looks) in
    let fourth = looked (goes_on third c.in_ok-read-4.ensures.looks) in
    returns_any _ fourth
