use Rattle.std.proofs.Common.{rules, ◌∙◌, sym}
use Rattle.std.proofs.lemmas.Bool.{true≢false}
use Rattle.nor_session.proofs.RehearsedRestores.{under_leaves, under_ends, under_refuses}
use Rattle.nor_session.proofs.rehearsals.ends_under.Goals as goal

pub returns-in-Ok-clause-leaves : goal.returns-in-Ok-clause-leaves
returns-in-Ok-clause-leaves g c = search (rules, under_leaves)

pub returns-in-Ok-clause-shows : goal.returns-in-Ok-clause-shows
returns-in-Ok-clause-shows g c =
    let ran = c.in-Ok.ensures in under_ends c.allow.ensures c.in-Ok.field-0 ran.restores_original ran.always ran.honest
    ran.modelled

pub returns-in-Err-clause-leaves : goal.returns-in-Err-clause-leaves
returns-in-Err-clause-leaves g c = search (rules, under_leaves)

pub returns-in-Err-2-clause-leaves : goal.returns-in-Err-2-clause-leaves
returns-in-Err-2-clause-leaves g c = search (rules, under_leaves)

pub returns-in-Err-2-clause-refuses : goal.returns-in-Err-2-clause-refuses
returns-in-Err-2-clause-refuses g c =
    let ran = c.in-Err.ensures in
    under_refuses c.allow.ensures c.in-Err.refusal ran.restores_original ran.always ran.honest
    (λ stopped. true≢false (sym (c.is_stopped.ensures.1 stopped) ∙ c.if-is_stopped.false))
