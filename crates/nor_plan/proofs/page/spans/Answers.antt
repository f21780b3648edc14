use Rattle.nor_plan.proofs.AllSpans.{spans_of-AreSpans}
use Rattle.nor_plan.proofs.page.spans.Goals as goal

pub returns-clause-spans : goal.returns-clause-spans
returns-clause-spans c = rw c.new.ensures (spans_of-AreSpans c.args.old.now c.args.target.now)
