use Rattle.std.proofs.Common.{ℕ, ◌+◌, ◌∙◌, [], ap, sym, refl, arith, true≢false}
use Rattle.std.proofs.lemmas.Grind.{common_steps}
use Rattle.nor_plan.specs.Erases.{erases_left}
use Rattle.nor_apply.proofs.InTurn.{listed_none}
use Rattle.nor_apply.proofs.Changing.{made_none}
use Rattle.nor_apply.proofs.ErasingExits.{erases_more, few_units, erases_failed, leaves_ended, does_ended}
use Rattle.nor_apply.proofs.erases.erase_all.Goals as goal

pub loop-unit-init : goal.loop-unit-init
loop-unit-init g c =
    let listed = c.erases-unit-items.ensures in
    let few = listed.counted 4096 (λ s is. omega (arith, c.requires.inside s is)) in
    record {
      below = c.requires.inside;
      covers = rw (← listed.planned) listed.covers;
      few = rw (← listed.planned) few;
      listed = listed_none _ (refl, refl, refl)
          (ap erases_left c.into_iter-unit-iterator.ensures.into_iter_gives ∙ listed.planned);
      most = omega (arith, c.requires.small);
      targeted = record { later = []; added = refl; each = λ s none. absurd (true≢false (sym none)) };
      done = λ honest can. made_none _ (λ a. refl) (λ s. refl) can.can.idle;
    }

pub loop-unit-preserved : goal.loop-unit-preserved
loop-unit-preserved g c =
    erases_more c.loop-unit.invariant c.in-Some.ensures.steps c.erase.ensures.leaves
    c.in_ok-sent.ensures.does c.in_ok-sent.ensures.sends refl (ap (λ (n : ℕ). c.loop-unit.tally.transactions + n) c.from.ensures)

pub overflow_add-tally : goal.overflow_add-tally
overflow_add-tally g c = omega (arith, few_units c.loop-unit.invariant c.in-Some.ensures.steps)

pub returns-in_err-sent : goal.returns-in_err-sent
returns-in_err-sent g c =
    let ends_in_error = erases_failed c.loop-unit.invariant c.in-Some.ensures.steps c.erase.ensures.leaves
    c.in_err-sent.ensures.fails c.in_err-sent.ensures.names in
    grind (arith, common_steps, ends_in_error)

pub returns-clause-leaves : goal.returns-clause-leaves
returns-clause-leaves g c = leaves_ended c.loop-unit.invariant c.in-None.ensures.steps.0

pub returns-clause-does : goal.returns-clause-does
returns-clause-does g c = does_ended c.loop-unit.invariant c.in-None.ensures.steps.0
