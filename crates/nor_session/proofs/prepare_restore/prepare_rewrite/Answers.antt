use Rattle.std.proofs.Common.{◌≡◌, ◌∙◌, ap, true, refl, rules, arith}
use Rattle.std.proofs.lemmas.Grind.{common_steps}
use Rattle.nor_model.proofs.Histories.{continues_refl}
use Rattle.nor_scan.specs.Identity.{most_identity}
use Rattle.nor_plan.specs.SectorSet.{has}
use Rattle.nor_plan.specs.declared.set.SectorSet.{SectorSet}
use Rattle.nor_session.specs.Restore.{every_saved}
use Rattle.nor_session.proofs.RepliedJournal.{unsent_history}
use Rattle.nor_session.proofs.RestoredBytes.{every_saved_sound}
use Rattle.nor_session.proofs.Changeable.{AreRead, shut_errors, prepared_all}
use Rattle.nor_session.proofs.prepare_restore.prepare_rewrite.Goals as goal

pub returns-in_err-identity-clause-errors : goal.returns-in_err-identity-clause-errors
returns-in_err-identity-clause-errors g c =
    let returned = c.in_err-identity.ensures.errors every_saved in grind (arith, common_steps, returned)

pub returns-in_err-changes-clause-errors : goal.returns-in_err-changes-clause-errors
returns-in_err-changes-clause-errors g c =
    let state = g.B.Bus.state c.identify_saved.new.bus in
    let small = λ (honest : (g.B.Bus.state c.args.bus.now).honest ≡ true).
    (g.met.B.Bus.reaches c.args.bus.now honest).kept2 in
    let scans = c.mark_saved-scanned.ensures.chosen state in
    let read : AreRead every_saved c.args.journal.now c.in_ok-identity.identity c.mark_saved-scanned.result
    (g.B.Bus.state c.args.bus.now) state state = search rules in
    let returned = shut_errors read most_identity c.in_err-changes.ensures.errors in
    let locked = c.in_err-changes.ensures.locked in
    grind (arith, common_steps, returned, locked)

pub returns-clause-prepares : goal.returns-clause-prepares
returns-clause-prepares g c =
    let state = g.B.Bus.state c.identify_saved.new.bus in
    let small = λ (honest : (g.B.Bus.state c.args.bus.now).honest ≡ true).
    (g.met.B.Bus.reaches c.args.bus.now honest).kept2 in
    let scans = c.mark_saved-scanned.ensures.chosen state in
    let read : AreRead every_saved c.args.journal.now c.in_ok-identity.identity c.mark_saved-scanned.result
    (g.B.Bus.state c.args.bus.now) state state = search rules in
    record {
      sound = every_saved_sound;
      only_reads = c.identify_saved.ensures.leaves;
      is = prepared_all every_saved_sound read c.in_ok-changes.ensures.changes c.in_ok-changes.ensures.accepts _ (omega arith);
      replies = record {
        read = state.history;
        before = c.identify_saved.ensures.leaves.nature.history;
        unsent = unsent_history c.identify_saved.ensures.leaves;
        after = continues_refl state.history;
        identity = c.in_ok-identity.identity;
        part = c.in_ok-identity.ensures.identifies.part;
        replied = c.in_ok-identity.ensures.identifies.replied;
        kind = c.in_ok-identity.ensures.kind;
        device = c.in_ok-identity.ensures.device;
        fixed = c.in_ok-identity.ensures.fixed;
      };
      has_read = record {
        identified = state;
        only_reads = c.identify_saved.ensures.leaves;
        after = continues_refl state.history;
        identity = c.in_ok-identity.identity;
        same = refl;
        replied = c.in_ok-identity.ensures.identifies.replied;
        status = rw (c.in_ok-changes.ensures.changes.one, c.in_ok-changes.ensures.changes.two) refl;
      };
    }

pub returns-clause-every : goal.returns-clause-every
returns-clause-every g c = λ s.
    ap (λ (set : SectorSet). has set s) c.in_ok-changes.ensures.changes.raised ∙ c.mark_saved-scanned.ensures.raised s
