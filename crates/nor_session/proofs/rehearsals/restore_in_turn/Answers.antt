use Rattle.std.proofs.Common.{rules, arith}
use Rattle.nor_request.specs.declared.refusal.Refusal.TheVariants.{Stopped}
use Rattle.nor_session.proofs.RehearsedRestores.{leaves_more, stopped_more, ended_at, ended_last, refuses_before, last_ends, next_stop, last_bound, allowed_more, tried_more}
use Rattle.nor_session.proofs.rehearsals.restore_in_turn.Goals as goal

pub loop-stop-preserved : goal.loop-stop-preserved
loop-stop-preserved g c = record {
  restores = omega (arith, c.loop-stop.invariant.restores);
  stopped = stopped_more c.loop-stop.invariant.stopped _ (omega (arith, c.loop-stop-test.true))
      c.ends_under.ensures.allowed c.ends_under.ensures.leaves
      (rw c.if-branch.false at c.in_ok-ends_under.ensures.shows);
}

pub returns-clause-refuses : goal.returns-clause-refuses
returns-clause-refuses g c =
    refuses_before Stopped c.loop-stop.invariant.stopped.leaves
    (last_ends c.most_needed.ensures (rw c.if-branch-2.false at c.in_ok-ends_under-2.ensures.shows))

pub returns-in_err-ends_under-clause-refuses : goal.returns-in_err-ends_under-clause-refuses
returns-in_err-ends_under-clause-refuses g c =
    let returned = refuses_before c.in_err-ends_under.field-0.0 c.loop-stop.invariant.stopped.leaves
    c.in_err-ends_under.ensures.refuses in
    search rules

pub returns-then-branch-clause-leaves : goal.returns-then-branch-clause-leaves
returns-then-branch-clause-leaves g c =
    leaves_more c.loop-stop.invariant.stopped _ (omega (arith, c.loop-stop-test.true)) c.ends_under.ensures.leaves

pub returns-then-branch-clause-shows : goal.returns-then-branch-clause-shows
returns-then-branch-clause-shows g c =
    ended_at c.loop-stop.invariant.stopped _ _ (omega (arith, c.loop-stop.invariant.restores))
    (omega (arith, c.loop-stop-test.true)) c.ends_under.ensures.allowed
    (rw c.if-branch.true at c.in_ok-ends_under.ensures.shows)

pub returns-then-branch-2-clause-shows : goal.returns-then-branch-2-clause-shows
returns-then-branch-2-clause-shows g c =
    let past = c.loop-stop.auto.stop-index-end in
    ended_last c.loop-stop.invariant.stopped _ _ (omega (arith, c.loop-stop.invariant.restores)) (omega (arith, past))
    c.most_needed.ensures c.ends_under-2.ensures.allowed (rw c.if-branch-2.true at c.in_ok-ends_under-2.ensures.shows)

pub returns-in_err-ends_under-2-clause-refuses : goal.returns-in_err-ends_under-2-clause-refuses
returns-in_err-ends_under-2-clause-refuses g c =
    let returned = refuses_before c.in_err-ends_under-2.field-0.0 c.loop-stop.invariant.stopped.leaves
    c.in_err-ends_under-2.ensures.refuses in
    search rules

pub returns-clause-leaves : goal.returns-clause-leaves
returns-clause-leaves g c = search (rules, arith, leaves_more)

pub returns-in_err-ends_under-clause-leaves : goal.returns-in_err-ends_under-clause-leaves
returns-in_err-ends_under-clause-leaves g c =
    leaves_more c.loop-stop.invariant.stopped _ (omega (arith, c.loop-stop-test.true)) c.ends_under.ensures.leaves

pub returns-in_err-ends_under-2-clause-leaves : goal.returns-in_err-ends_under-2-clause-leaves
returns-in_err-ends_under-2-clause-leaves g c =
    leaves_more c.loop-stop.invariant.stopped _ (omega (arith, c.loop-stop.auto.stop-index-end)) c.ends_under-2.ensures.leaves

pub returns-then-branch-2-clause-leaves : goal.returns-then-branch-2-clause-leaves
returns-then-branch-2-clause-leaves g c = search (rules, arith, leaves_more)

pub returns-in_err-ends_under-clause-tried : goal.returns-in_err-ends_under-clause-tried
returns-in_err-ends_under-clause-tried g c =
    let before = c.loop-stop.invariant.stopped in let inside = c.loop-stop-test.true in
    let new = g.B.Bus.state c.ends_under.new.bus in
    let allowed = allowed_more before new (next_stop c.args.stops.now c.loop-stop.stop-index (omega (arith, inside)))
    c.ends_under.ensures.allowed in
    let tried = tried_more before new (omega (arith, inside)) allowed in
    search rules

pub returns-in_err-ends_under-2-clause-tried : goal.returns-in_err-ends_under-2-clause-tried
returns-in_err-ends_under-2-clause-tried g c =
    let before = c.loop-stop.invariant.stopped in let past = c.loop-stop.auto.stop-index-end in
    let new = g.B.Bus.state c.ends_under-2.new.bus in
    let bound = last_bound c.args.stops.now c.loop-stop.stop-index (omega (arith, past)) c.most_needed.ensures in
    let tried = tried_more before new (omega (arith, past)) (allowed_more before new bound c.ends_under-2.ensures.allowed) in
    search rules

pub returns-clause-tried : goal.returns-clause-tried
returns-clause-tried g c =
    let before = c.loop-stop.invariant.stopped in let past = c.loop-stop.auto.stop-index-end in
    let new = g.B.Bus.state c.ends_under-2.new.bus in
    let bound = last_bound c.args.stops.now c.loop-stop.stop-index (omega (arith, past)) c.most_needed.ensures in
    tried_more before new (omega (arith, past)) (allowed_more before new bound c.ends_under-2.ensures.allowed)
