use Rattle.std.proofs.Common.{◌≡◌, ◌<◌, ◌+◌, true, refl, rules, arith}
use Rattle.nor_request.specs.declared.refusal.Refusal.TheVariants.{Stopped}
use Rattle.nor_request.specs.Request.{scanned_sectors}
use Rattle.nor_scan.specs.Identity.{needed_to_identify}
use Rattle.std.proofs.lemmas.Result.{err_from_is_err_and}
use Rattle.nor_session.proofs.Naming.{judged_names}
use Rattle.nor_session.proofs.ReadBack.{judged_read_back, open_read_back}
use Rattle.nor_session.proofs.Targeting.{none_written, few_none}
use Rattle.nor_session.proofs.ReadyChip.{opening_of, named, open_errors, open_last, judge_errors}
use Rattle.nor_session.proofs.RestoresOriginal.{original_kept}
use Rattle.nor_session.proofs.sessions.session_announced.Goals as goal

pub returns-clause-keeps : goal.returns-clause-keeps
returns-clause-keeps g c =
    let kept = c.answer.ensures.keeps (g.B.Bus.state c.args.bus.now) (search rules) (search rules) in
    original_kept c.args.request.now c.args.image.now _ _ _ _ (g.met.B.Bus.reaches c.args.bus.now) kept.always.only_reads
    (λ modelled. (kept.modelled modelled).undo)

pub returns-in_err-code-clause-always : goal.returns-in_err-code-clause-always
returns-in_err-code-clause-always g c =
    let names = judged_names c.in_err-code.field-0.0 c.in_err-code.ensures.faults in
    let read_back = judged_read_back c.args.request.now c.args.image.now (g.B.Bus.state c.args.bus.now)
    (g.B.Bus.state c.identify.new.bus) c.in_err-code.field-0.0 c.in_err-code.ensures.faults in
    let p = err_from_is_err_and c.from_residual-in_err-code.result c.from_residual-in_err-code.ensures.1 in
    rw (p.1, p.2) (search (rules, none_written, few_none))

pub returns-in_err-identity-clause-modelled : goal.returns-in_err-identity-clause-modelled
returns-in_err-identity-clause-modelled g c = λ modelled.
    let vault = g.V.Vault.state c.args.vault.now in
    let errors = open_errors c.args.request.now c.args.image.now (g.B.Bus.state c.args.bus.now)
    (g.B.Bus.state c.identify.new.bus) vault vault c.in_err-identity.field-0.0 modelled c.in_err-identity.ensures.errors in
    let early : (g.B.Bus.state c.args.bus.now).punctual ≡ true → c.in_err-identity.field-0.0 ≡ Stopped
    → (g.B.Bus.state c.args.bus.now).left
    < needed_to_identify (g.B.Bus.state c.args.bus.now).further (g.B.Bus.state c.args.bus.now).chip
    + scanned_sectors c.args.request.now (g.B.Bus.state c.args.bus.now).chip.config.size = λ punctual is.
    let few = c.in_err-identity.ensures.exact modelled.honest punctual is in omega arith in
    let p = err_from_is_err_and c.from_residual.result c.from_residual.ensures.1 in
    rw (p.1, p.2) (search (rules, none_written))

pub returns-in_err-code-clause-modelled : goal.returns-in_err-code-clause-modelled
returns-in_err-code-clause-modelled g c = λ modelled.
    let old = g.B.Bus.state c.args.bus.now in let new = g.B.Bus.state c.identify.new.bus in
    let vault = g.V.Vault.state c.args.vault.now in
    let request = c.args.request.now in let opens = c.in_ok-identity.ensures.identifies in
    let errors = judge_errors request c.args.image.now old new vault vault c.in_err-code.field-0.0
    (c.in_err-code.ensures.errors old.further old.chip c.args.image.now (opening_of modelled opens)
    (named request c.in_ok-identity.identity old new modelled opens) refl) in
    let early : c.in_err-code.field-0.0 ≡ Stopped → ⊥ = λ is. rw is at c.in_err-code.ensures.faults in
    let p = err_from_is_err_and c.from_residual-in_err-code.result c.from_residual-in_err-code.ensures.1 in
    rw (p.1, p.2) (search (rules, none_written))

pub returns-in_err-identity-clause-always : goal.returns-in_err-identity-clause-always
returns-in_err-identity-clause-always g c =
    let last = open_last _ _ (g.B.Bus.state c.args.bus.now) (g.B.Bus.state c.identify.new.bus) c.in_err-identity.field-0.0 c.in_err-identity.ensures.errors in
    let read_back = open_read_back c.args.request.now c.args.image.now _ (g.B.Bus.state c.args.bus.now)
    (g.B.Bus.state c.identify.new.bus) c.in_err-identity.field-0.0 c.in_err-identity.ensures.errors in
    let p = err_from_is_err_and c.from_residual.result c.from_residual.ensures.1 in
    rw (p.1, p.2) (search (rules, none_written, few_none))
