use Rattle.std.proofs.Common.{rules, arith, ◌≡◌, ◌∙◌, true, refl, sym}
use Rattle.std.proofs.lemmas.Bool.{true≢false}
use Rattle.std.proofs.lemmas.Result.{err_from_is_err_and}
use Rattle.nor_journal.specs.MemVault.{held_by}
use Rattle.nor_probe.specs.Known.{IsModelled}
use Rattle.nor_session.proofs.RehearsedRestores.{same_nature_then, latch_alone}
use Rattle.nor_session.proofs.RehearsedSessions.{session_sends, session_programs, session_tried, undo_premises, both_wear, both_send, both_program, both_write, both_allowed, both_tried, undo_refused}
use Rattle.nor_session.proofs.rehearsals.rehearse.Goals as goal

pub returns-in_err-ended-clause-always : goal.returns-in_err-ended-clause-always
returns-in_err-ended-clause-always g c =
    let sends = session_sends c.args.stops.now c.stopped_session.ensures.leaves in
    let programs = session_programs c.stopped_session.ensures.leaves in
    let tried = session_tried c.args.stops.now (g.B.Bus.state c.args.bus.now) (g.B.Bus.state c.stopped_session.new.bus)
    c.stopped_session.ensures.allowed in
    let last_transaction = c.in_err-ended.ensures.refuses.last_transaction in
    let p = err_from_is_err_and c.from_residual.result c.from_residual.ensures.1 in
    rw (p.1, p.2) (search (rules, arith))

pub returns-in_err-restores : goal.returns-in_err-restores
returns-in_err-restores g c =
    let session = c.stopped_session.ensures.leaves in let undone = c.undo.ensures in let is = c.bytes.ensures in
    let sealed = sym c.is_sealed.ensures ∙ c.if-not-is_sealed.false in
    let refuses = c.in_err-restores.ensures.refuses in
    let never = λ (modelled : IsModelled (g.B.Bus.state c.args.bus.now))
    (punctual : (g.B.Bus.state c.args.bus.now).punctual ≡ true).
    let (then_modelled, can_undo) = undo_premises session sealed is undone modelled in
    refuses.never then_modelled (session.nature.punctual ∙ punctual) _ _ can_undo in
    let returned = undo_refused session sealed is undone (held_by c.args.vault.now) _ refuses in
    let nature = same_nature_then undone.nature session.nature in
    let tried = both_tried session sealed is undone c.args.stops.now c.later.ensures c.stopped_session.ensures.allowed
    c.in_err-restores.ensures.tried in
    let last_transaction = refuses.last_transaction in
    let sends = both_send session sealed is undone c.args.stops.now c.later.ensures in
    let programs = both_program session sealed is undone in
    let writes = both_write session sealed is undone c.args.stops.now c.later.ensures in
    let p = err_from_is_err_and c.from_residual-in_err-restores.result c.from_residual-in_err-restores.ensures.1 in
    rw (p.1, p.2) (record {
      restores_original = λ modelled punctual steady_or_idle. absurd (never modelled punctual);
      always = search rules;
      honest = λ honest punctual. refuses.fails (session.nature.honest ∙ honest) (session.nature.punctual ∙ punctual);
      modelled = λ modelled punctual. absurd (never modelled punctual);
    })

pub returns : goal.returns
returns g c =
    let session = c.stopped_session.ensures.leaves in let undone = c.undo.ensures in let is = c.bytes.ensures in
    let sealed = sym c.is_sealed.ensures ∙ c.if-not-is_sealed.false in
    let undoes = c.in_ok-restores.ensures.undoes in
    let undo_premises = undo_premises session sealed is undone in
    record {
      restores_original = λ modelled punctual steady_or_idle.
          let (then_modelled, can_undo) = undo_premises modelled in undoes.same then_modelled _ _ can_undo;
      always = record {
        nature = same_nature_then undone.nature session.nature;
        allowed = both_allowed session sealed is undone c.args.stops.now c.later.ensures
            c.stopped_session.ensures.allowed _ undoes.allowed;
        tried = search rules;
        last_transaction = search rules;
        counts = record {
          seal = sym sealed;
          ended = λ ended. refl;
          some = λ again. undoes.some;
          most = (let most = undoes.most in let later_is = c.later.ensures in search rules);
          none = λ unsealed. absurd (true≢false unsealed);
          whole = search rules;
        };
        answers = search rules;
        names = search rules;
        polled_ready = search rules;
        unsent = λ unsealed. absurd (true≢false (sym sealed ∙ unsealed));
        sends = λ again. both_send session sealed is undone c.args.stops.now c.later.ensures;
        programs = λ again. both_program session sealed is undone;
        writes = both_write session sealed is undone c.args.stops.now c.later.ensures;
      };
      honest = search rules;
      modelled = λ modelled punctual.
          let still = session.nature.punctual ∙ punctual in
          let (then_modelled, can_undo) = undo_premises modelled in
          let wears = both_wear session sealed is undone modelled in
          let are = rw c.later.ensures at (undoes.are then_modelled still _ _ can_undo) in
          let last = rw c.later.ensures at (undoes.last then_modelled still _ _ can_undo) in
          let shows = c.in_ok-ended.ensures.shows in
          let latch = latch_alone _ shows undoes modelled then_modelled in
          record {
            wears = wears;
            refuses = tt;
            errors = tt;
            accepts = λ again. session.accepted modelled sealed;
            saves = λ again. (session.back modelled sealed).journal;
            ended = search (rules, shows.below modelled punctual);
            stopped = λ ended. shows.can modelled punctual ended;
            seal = rw sealed at (shows.seal modelled punctual);
            restores = λ again. are;
            latch = latch;
            last = λ again. last;
          };
    }
