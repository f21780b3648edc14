use Rattle.std.proofs.Common.{◌*◌, arith}
use Rattle.nor_plan.proofs.Parts.{cut_out}
use Rattle.nor_read.proofs.Differing.{part_agrees, part_differs}
use Rattle.nor_read.proofs.verifying.first_other.Goals as goal

pub returns-in_err-first : goal.returns-in_err-first
returns-in_err-first c = λ content read. rw c.from_residual.ensures
    (part_agrees _ _ _ _ _ _ (omega (arith, c.fill_excluded.auto.bytes))
    (λ i. cut_out c.args.image.now (4096 * c.args.sector) _ i (omega arith)) c.fill_excluded.ensures.bytes content read
    c.in_err-first.ensures.none)

pub returns : goal.returns
returns c = λ content read. part_differs _ _ _ _ _ _ (omega (arith, c.fill_excluded.auto.bytes))
    (λ i. cut_out c.args.image.now (4096 * c.args.sector) _ i (omega arith)) c.fill_excluded.ensures.bytes content read
    _ c.in_ok-first.ensures.first
