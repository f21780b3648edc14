use Rattle.std.proofs.Common.{rules, ◌≡◌, ◌∙◌, length, sym}
use Rattle.std.proofs.lemmas.Bool.{true≢false}
use Rattle.nor_session.proofs.RehearsedSessions.{session_ends, session_leaves, session_refuses, unlimited}
use Rattle.nor_session.proofs.rehearsals.stopped_session.Goals as goal
use Rattle.nor_session.proofs.rehearsals.stopped_session.Goals.{then-is_stopped+else-not-is_empty, else-is_stopped}

pub returns-in-Ok-clause-leaves : goal.returns-in-Ok-clause-leaves
returns-in-Ok-clause-leaves g c = search (rules, session_leaves, g.met.B.Bus.reaches)

pub returns-in-Ok-clause-shows : goal.returns-in-Ok-clause-shows
returns-in-Ok-clause-shows g c =
    let ran = c.in-Ok.ensures in
    rw c.first_allowed.ensures at (session_ends c.allow.ensures c.args.request.now c.args.image.now _ c.in-Ok.field-0
    ran.always ran.honest ran.modelled)

pub returns-in-Err-clause-leaves : goal.returns-in-Err-clause-leaves
returns-in-Err-clause-leaves g c = search (rules, session_leaves, g.met.B.Bus.reaches)

pub returns-in-Err-2-clause-leaves : goal.returns-in-Err-2-clause-leaves
returns-in-Err-2-clause-leaves g c = search (rules, session_leaves, g.met.B.Bus.reaches)

pub returns-in-Err-2-clause-refuses : goal.returns-in-Err-2-clause-refuses
returns-in-Err-2-clause-refuses g c =
    let ran = c.in-Err.ensures in
    session_refuses c.allow.ensures _ _ _ c.in-Err.refusal ran.always ran.honest ran.modelled
    (λ stopped. elim c.if-is_stopped.branch [
      | then-is_stopped+else-not-is_empty w ↦
          let none : length c.args.stops.now ≡ 0 = search rules in
          c.first_allowed.ensures ∙ unlimited c.args.stops.now none
      | else-is_stopped w ↦ absurd (true≢false (sym (c.is_stopped.ensures.1 stopped) ∙ w.if-is_stopped.false))
    ])
