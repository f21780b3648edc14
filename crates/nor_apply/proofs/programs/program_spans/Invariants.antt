use Rattle.nor_plan.specs.Spans.{spans_left}
use Rattle.nor_apply.proofs.ProgrammingSpans.{SpansSoFar}
use Rattle.nor_apply.proofs.programs.program_spans.Given as goal

abbrev pub invariant-loop-span : goal.invariant-loop-span
invariant-loop-span g l =
    SpansSoFar l.fn.sector l.fn.old l.fn.wanted l.yielded (spans_left l.span-iterator) (g.B.Bus.state l.fn.bus)
    (g.B.Bus.state l.bus) l.tally
