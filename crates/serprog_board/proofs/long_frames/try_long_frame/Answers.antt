use Rattle.std.proofs.Common.{rules}
use Rattle.serprog_board.proofs.Looking.{fails, goes_on, looked, returns_any}
use Rattle.serprog_board.proofs.long_frames.try_long_frame.Goals as goal

pub returns-in_err-read_direct-clause-looks : goal.returns-in_err-read_direct-clause-looks
returns-in_err-read_direct-clause-looks g c awaits was =
    let first = looked (c.in_ok-read_behind.ensures.looks awaits was) in
    fails c.from_residual-in_err-read_direct.result _ c.from_residual-in_err-read_direct.ensures.1
    (goes_on first c.in_err-read_direct.ensures.looks)

pub returns-then-eq-clause-looks : goal.returns-then-eq-clause-looks
returns-then-eq-clause-looks g c awaits was =
    let first = looked (c.in_ok-read_behind.ensures.looks awaits was) in
    let second = looked (goes_on first c.in_ok-read_direct.ensures.looks) in
    returns_any _ second

pub loop-init : goal.loop-init
loop-init g c = record {
  harmless = search rules;
  nature = search rules;
  looks = λ awaits was.
      let first = looked (c.in_ok-read_behind.ensures.looks awaits was) in
      let second = looked (goes_on first c.in_ok-read_direct.ensures.looks) in
      second;
}

pub returns-in_err-read_behind-2-clause-looks : goal.returns-in_err-read_behind-2-clause-looks
returns-in_err-read_behind-2-clause-looks g c awaits was =
    let first = c.loop.invariant.looks awaits was in
    fails c.from_residual-in_err-read_behind-2.result _ c.from_residual-in_err-read_behind-2.ensures.1
    (goes_on first c.in_err-read_behind-2.ensures.looks)

pub returns-then-not-branch-2-clause-looks : goal.returns-then-not-branch-2-clause-looks
returns-then-not-branch-2-clause-looks g c awaits was =
    let first = c.loop.invariant.looks awaits was in
    let second = looked (goes_on first c.in_ok-read_behind-2.ensures.looks) in
    returns_any _ second

pub returns-in_err-read_direct-2-clause-looks : goal.returns-in_err-read_direct-2-clause-looks
returns-in_err-read_direct-2-clause-looks g c awaits was =
    let first = c.loop.invariant.looks awaits was in
    let second = looked (goes_on first c.in_ok-read_behind-2.ensures.looks) in
    fails c.from_residual-in_err-read_direct-2.result _ c.from_residual-in_err-read_direct-2.ensures.1
    (goes_on second c.in_err-read_direct-2.ensures.looks)

pub returns-then-ne-clause-looks : goal.returns-then-ne-clause-looks
returns-then-ne-clause-looks g c awaits was =
    let first = c.loop.invariant.looks awaits was in
    let second = looked (goes_on first c.in_ok-read_behind-2.ensures.looks) in
    let third = looked (goes_on second c.in_ok-read_direct-2.ensures.looks) in
    returns_any _ third

pub loop-preserved : goal.loop-preserved
loop-preserved g c = record {
  harmless = search rules;
  nature = search rules;
  looks = λ awaits was.
      let first = c.loop.invariant.looks awaits was in
      let second = looked (goes_on first c.in_ok-read_behind-2.ensures.looks) in
      let third = looked (goes_on second c.in_ok-read_direct-2.ensures.looks) in
      third;
}
