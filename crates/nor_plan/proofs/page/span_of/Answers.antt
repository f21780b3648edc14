use Rattle.std.proofs.Common.{◌∙◌, arith}
use Rattle.nor_plan.proofs.PageSpans.{agreed_page, bounded_page}
use Rattle.nor_plan.proofs.page.span_of.Goals as goal

pub returns-in_err-first : goal.returns-in_err-first
returns-in_err-first c =
    c.from_residual.ensures
    ∙ agreed_page c.args.old.now c.args.target.now c.args.page _ (omega (arith, c.min-count.ensures)) (omega arith)
    c.in_err-first.ensures.none

pub returns : goal.returns
returns c =
    bounded_page c.args.old.now c.args.target.now c.args.page _ _ _ (omega (arith, c.min-count.ensures)) (omega arith)
    c.in_ok-first.ensures.first c.in_ok-first.ensures.last
