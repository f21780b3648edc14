use Rattle.std.proofs.Common.{take, ap, ◌∙◌, arith, inl, inr}
use Rattle.std.proofs.lemmas.Result.{err_from_is_err_and}
use Rattle.nor_journal.proofs.Positions.{next_fault, end_fault, is_text, is_content, from_mark, mark_within}
use Rattle.nor_journal.proofs.journal.Journal.read_parts.Goals as goal

pub returns-in_err-count-clause-fault : goal.returns-in_err-count-clause-fault
returns-in_err-count-clause-fault c =
    let head = c.in_ok-head.ensures.found in let found = c.in_err-count.ensures.fault in
    let p = err_from_is_err_and c.from_residual-in_err-count.result c.from_residual-in_err-count.ensures.1 in
    rw (p.1, p.2) (inr (next_fault head.1 (λ i. omega (arith, c.type_inv.bytes i)) found.records _ head.0
    (inl found.next)))

pub check_end-requires-clause-within : goal.check_end-requires-clause-within
check_end-requires-clause-within c =
    let found = c.in_ok-count.ensures.found in
    mark_within c.in_ok-head.ensures.found.1 (λ i. omega (arith, c.type_inv.bytes i)) found.records found.mark

pub check_end-requires-clause-is_mark : goal.check_end-requires-clause-is_mark
check_end-requires-clause-is_mark c =
    let found = c.in_ok-count.ensures.found in
    ap (take 4) (from_mark c.in_ok-head.ensures.found.1 (λ i. omega (arith, c.type_inv.bytes i)) found.records)
    ∙ found.mark

pub returns-in_err-check_end-clause-fault : goal.returns-in_err-check_end-clause-fault
returns-in_err-check_end-clause-fault c =
    let p = err_from_is_err_and c.from_residual-in_err-check_end.result c.from_residual-in_err-check_end.ensures.1 in
    let head = c.in_ok-head.ensures.found in
    rw (p.1, p.2) (inr (end_fault head.1 (λ i. omega (arith, c.type_inv.bytes i)) c.in_ok-count.ensures.found.records _
    head.0 c.in_err-check_end.ensures.fault))

pub returns-clause-found : goal.returns-clause-found
returns-clause-found c =
    let head = c.in_ok-head.ensures.found in let found = c.in_ok-count.ensures.found in (
      is_content _ _ _ head.0 found.records,
      is_text head.1 (λ i. omega (arith, c.type_inv.bytes i)) found.records found.mark c.in_ok-check_end.ensures.found,
    )
