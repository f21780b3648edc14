use Rattle.std.proofs.Common.{rules}
use Rattle.serprog_board.proofs.Looking.{fails, goes_on, looked, returns_any}
use Rattle.serprog_board.proofs.overlaps.compare_overlaps.Goals as goal

pub returns-in_err-try_overlap-clause-looks : goal.returns-in_err-try_overlap-clause-looks
returns-in_err-try_overlap-clause-looks g c awaits was =
    fails c.from_residual.result _ c.from_residual.ensures.1
    (goes_on (c.loop-place.invariant.looks awaits was) c.in_err-try_overlap.ensures.looks)

pub returns-in-Agrees-clause-looks : goal.returns-in-Agrees-clause-looks
returns-in-Agrees-clause-looks g c awaits was =
    returns_any _ (looked (goes_on (c.loop-place.invariant.looks awaits was) c.in_ok-try_overlap.ensures.looks))

pub loop-place-preserved : goal.loop-place-preserved
loop-place-preserved g c = record {
  harmless = search rules;
  nature = search rules;
  looks = λ awaits was. looked (goes_on (c.loop-place.invariant.looks awaits was) c.in_ok-try_overlap.ensures.looks);
}
