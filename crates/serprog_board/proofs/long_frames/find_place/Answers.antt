use Rattle.std.proofs.Common.{rules}
use Rattle.serprog_board.proofs.Looking.{fails, goes_on, looked, returns_any}
use Rattle.serprog_board.proofs.long_frames.find_place.Goals as goal

pub returns-in_err-is_telling-clause-looks : goal.returns-in_err-is_telling-clause-looks
returns-in_err-is_telling-clause-looks g c awaits was =
    fails c.from_residual.result _ c.from_residual.ensures.1
    (goes_on (c.loop-place.invariant.looks awaits was) c.in_err-is_telling.ensures.looks)

pub returns-then-branch-clause-looks : goal.returns-then-branch-clause-looks
returns-then-branch-clause-looks g c awaits was =
    returns_any _ (looked (goes_on (c.loop-place.invariant.looks awaits was) c.in_ok-is_telling.ensures.looks))

pub loop-place-preserved : goal.loop-place-preserved
loop-place-preserved g c = record {
  harmless = search rules;
  nature = search rules;
  looks = λ awaits was. looked (goes_on (c.loop-place.invariant.looks awaits was) c.in_ok-is_telling.ensures.looks);
}
