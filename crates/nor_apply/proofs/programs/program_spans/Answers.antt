use Rattle.std.proofs.Common.{ℕ, ◌+◌, ◌∙◌, refl, ap, arith, rules}
use Rattle.std.proofs.lemmas.Grind.{common_steps}
use Rattle.nor_plan.specs.Spans.{spans_left}
use Rattle.nor_apply.proofs.InTurn.{listed_none}
use Rattle.nor_apply.proofs.Changing.{made_none}
use Rattle.nor_apply.proofs.ProgrammingSpans.{spans_more, few_spans, spans_failed, does_ended, leaves_ended}
use Rattle.nor_apply.proofs.programs.program_spans.Goals as goal

pub loop-span-init : goal.loop-span-init
loop-span-init g c =
    let listed = c.spans-span-items.ensures in
    record {
      whole = search rules;
      wanted_whole = search rules;
      are = rw (← listed.pages) listed.spans;
      listed = listed_none _ (refl, refl, refl)
          (ap spans_left c.into_iter-span-iterator.ensures.into_iter_gives ∙ listed.pages);
      done = λ honest can. made_none _ (λ a. refl) (λ s. refl) can.can.idle;
    }

pub loop-span-preserved : goal.loop-span-preserved
loop-span-preserved g c =
    spans_more c.loop-span.invariant c.in-Some.ensures.steps c.program_page.ensures.leaves
    c.in_ok-sent.ensures.does refl (ap (λ (n : ℕ). c.loop-span.tally.transactions + n) c.from.ensures)

pub overflow_add-tally : goal.overflow_add-tally
overflow_add-tally g c = omega (arith, (few_spans c.loop-span.invariant c.in-Some.ensures.steps).0)

pub overflow_add-tally-in-loop-span : goal.overflow_add-tally-in-loop-span
overflow_add-tally-in-loop-span g c =
    omega (arith, few_spans c.loop-span.invariant c.in-Some.ensures.steps, c.in_ok-sent.ensures.does.ends.few)

pub returns-in_err-sent : goal.returns-in_err-sent
returns-in_err-sent g c =
    let ends_in_error = spans_failed c.loop-span.invariant c.in-Some.ensures.steps c.program_page.ensures.leaves
    c.in_err-sent.ensures.fails c.in_err-sent.ensures.names in
    grind (arith, common_steps, ends_in_error)

pub returns-clause-leaves : goal.returns-clause-leaves
returns-clause-leaves g c = leaves_ended c.loop-span.invariant c.in-None.ensures.steps.0

pub returns-clause-does : goal.returns-clause-does
returns-clause-does g c = does_ended c.loop-span.invariant c.in-None.ensures.steps.0
