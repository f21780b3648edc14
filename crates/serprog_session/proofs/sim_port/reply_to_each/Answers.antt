use Rattle.std.proofs.Common.{◌∙◌, ◌++◌, List, ℕ, ap, arith, length}
use Rattle.std.specs.Prelude.{Option, unwrap_or}
use Rattle.serprog_session.proofs.Replying.{answers_then, all_answered, none_whole, reply_fits, err_not_ok, if_ok}
use Rattle.serprog_session.proofs.sim_port.reply_to_each.Goals as goal

pub returns-in_default-clause-replies : goal.returns-in_default-clause-replies
returns-in_default-clause-replies c = λ commands same have ok.
    let len = c.unwrap_or-len.ensures ∙ ap (λ (o : Option ℕ). unwrap_or o 18446744073709551615) c.frame_len.ensures.value in
    (none_whole c.args.frames.now c.loop-done.rest.now c.args.pending.now.items c.loop-done.pending.items _ _ _ _ commands
    len c.in_default.ensures.cases c.loop-done.invariant same have).replies

pub returns-in_default-clause-selects : goal.returns-in_default-clause-selects
returns-in_default-clause-selects c = λ commands same have ok.
    let len = c.unwrap_or-len.ensures ∙ ap (λ (o : Option ℕ). unwrap_or o 18446744073709551615) c.frame_len.ensures.value in
    (none_whole c.args.frames.now c.loop-done.rest.now c.args.pending.now.items c.loop-done.pending.items _ _ _ _ commands
    len c.in_default.ensures.cases c.loop-done.invariant same have).settings

pub returns-then-is_err-clause-fits : goal.returns-then-is_err-clause-fits
returns-then-is_err-clause-fits c = λ commands same have fits.
    let len = c.unwrap_or-len.ensures ∙ ap (λ (o : Option ℕ). unwrap_or o 18446744073709551615) c.frame_len.ensures.value in
    let next = reply_fits c.args.frames.now c.loop-done.rest.now c.in-Some.frame.now c.in-Some.later.now
    c.args.pending.now.items c.loop-done.pending.items _ _ _ _ commands len c.in-Some.ensures.cases fits
    c.loop-done.invariant same have in
    absurd (err_not_ok c.try_extend_from_slice.result
    (c.try_extend_from_slice.ensures.variant.1 (omega (arith, next, ap length c.reply_to.ensures)))
    c.if-is_err.ensures.value)

pub loop-done-preserved : goal.loop-done-preserved
loop-done-preserved c =
    let len = c.unwrap_or-len.ensures ∙ ap (λ (o : Option ℕ). unwrap_or o 18446744073709551615) c.frame_len.ensures.value in
    answers_then c.args.frames.now c.loop-done.rest.now c.in-Some.frame.now c.in-Some.later.now
    c.args.pending.now.items c.loop-done.pending.items c.try_extend_from_slice.new.self.items _ _ _ _ _ len
    c.in-Some.ensures.cases
    (if_ok c.try_extend_from_slice.result _ c.try_extend_from_slice.ensures.ok c.if-is_err.ensures.value
    ∙ ap (λ (r : List ℕ). c.loop-done.pending.items ++ r) c.reply_to.ensures) c.selected_by.ensures
    c.loop-done.invariant

pub returns-clause-replies : goal.returns-clause-replies
returns-clause-replies c = λ commands same have ok.
    (all_answered c.args.frames.now c.loop-done.rest.now c.args.pending.now.items c.loop-done.pending.items _ _ _ commands
    c.loop-done-test.false c.loop-done.invariant same have).replies

pub returns-clause-selects : goal.returns-clause-selects
returns-clause-selects c = λ commands same have ok.
    (all_answered c.args.frames.now c.loop-done.rest.now c.args.pending.now.items c.loop-done.pending.items _ _ _ commands
    c.loop-done-test.false c.loop-done.invariant same have).settings
