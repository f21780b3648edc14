use Rattle.std.proofs.Common.{sym, ◌∙◌, arith}
use Rattle.nor_plan.proofs.PageSpans.{spans_from-some}
use Rattle.nor_plan.proofs.page.next_span.Goals as goal

pub returns-in-Some : goal.returns-in-Some
returns-in-Some c =
    sym c.loop-page.invariant
    ∙ spans_from-some c.args.old.now c.args.target.now c.loop-page.page c.in-Some.span (omega (arith, c.div_ceil-page-end.ensures, c.loop-page-test.true)) (sym c.in-Some.ensures)
