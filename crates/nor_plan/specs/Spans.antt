use Rattle.std.specs.Prelude.{List}
use Rattle.nor_plan.specs.declared.page.PageSpan.{PageSpan}
use Rattle.nor_plan.specs.declared.page.iter.Spans.{Spans}
use Rattle.nor_plan.specs.Span.{spans_from}

unfoldable pub spans_left : Spans → List PageSpan
spans_left s = spans_from s.old.now s.target.now s.page
