use Rattle.board_jobs.proofs.Found.{passes_err, passes_ok}
use Rattle.board_jobs.proofs.following.fill_from_chip.Goals as goal

pub returns-in-Some-clause-ok : goal.returns-in-Some-clause-ok
returns-in-Some-clause-ok g c = rw c.in-Some.is
    (passes_ok _ (λ refusal. ⊥) c.merge_chip.result c.or_fault.result c.or_fault.ensures c.merge_chip.ensures.ok)

pub returns-in-Some-clause-err : goal.returns-in-Some-clause-err
returns-in-Some-clause-err g c = rw c.in-Some.is
    (passes_err (λ target. ⊥) _ c.merge_chip.result c.or_fault.result c.or_fault.ensures c.merge_chip.ensures.err)
