use Rattle.std.proofs.Common.{◌≡◌}
use Rattle.nor_plan.specs.Span.{spans_from}
use Rattle.nor_plan.proofs.page.next_span.Given as goal

-- The spans from the loop's page on are all spans from the function's argument `page` on.
abbrev pub invariant-loop-page : goal.invariant-loop-page
invariant-loop-page l = spans_from l.fn.old l.fn.target l.page ≡ spans_from l.fn.old l.fn.target l.fn.page
