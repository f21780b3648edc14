use Rattle.std.proofs.Common.{◌≡◌, ◌+◌, length, true, refl, rules, arith}
use Rattle.std.proofs.lemmas.Grind.{common_steps}
use Rattle.nor_scan.specs.Identity.{most_identity}
use Rattle.nor_driver.proofs.ReadsInTurn.{only_reads_then, only_reads_more}
use Rattle.nor_session.specs.Restore.{differing}
use Rattle.nor_session.proofs.Reopened.{errors_more}
use Rattle.nor_session.proofs.RepliedJournal.{unsent_history}
use Rattle.nor_session.proofs.RestoredBytes.{differing_sound}
use Rattle.nor_session.proofs.Changeable.{AreRead, shut_errors, prepared_all}
use Rattle.nor_session.proofs.prepare_restore.prepare_restore.Goals as goal

pub returns-in_err-changes-clause-errors : goal.returns-in_err-changes-clause-errors
returns-in_err-changes-clause-errors g c =
    let small = λ (honest : (g.B.Bus.state c.args.bus.now).honest ≡ true).
    (g.met.B.Bus.reaches c.args.bus.now honest).kept2 in
    let read : AreRead differing c.args.journal.now c.in_ok-identity.identity c.in_ok-scanned.scanned (g.B.Bus.state c.args.bus.now)
    (g.B.Bus.state c.identify_saved.new.bus) (g.B.Bus.state c.scan_saved.new.bus) = search rules in
    let returned = shut_errors read (most_identity + length c.args.journal.now.saved) c.in_err-changes.ensures.errors in
    let locked = c.in_err-changes.ensures.locked in
    grind (arith, common_steps, returned, locked)

pub returns-clause-prepares : goal.returns-clause-prepares
returns-clause-prepares g c =
    let small = λ (honest : (g.B.Bus.state c.args.bus.now).honest ≡ true).
    (g.met.B.Bus.reaches c.args.bus.now honest).kept2 in
    let read : AreRead differing c.args.journal.now c.in_ok-identity.identity c.in_ok-scanned.scanned (g.B.Bus.state c.args.bus.now)
    (g.B.Bus.state c.identify_saved.new.bus) (g.B.Bus.state c.scan_saved.new.bus) = search rules in
    record {
      sound = differing_sound;
      only_reads = search (rules, only_reads_then);
      is = prepared_all differing_sound read c.in_ok-changes.ensures.changes c.in_ok-changes.ensures.accepts _
          (let count = c.count-sectors.ensures.value in search rules);
      replies = record {
        read = (g.B.Bus.state c.identify_saved.new.bus).history;
        before = c.identify_saved.ensures.leaves.nature.history;
        unsent = unsent_history c.identify_saved.ensures.leaves;
        after = c.scan_saved.ensures.leaves.nature.history;
        identity = c.in_ok-identity.identity;
        part = c.in_ok-identity.ensures.identifies.part;
        replied = c.in_ok-identity.ensures.identifies.replied;
        kind = c.in_ok-identity.ensures.kind;
        device = c.in_ok-identity.ensures.device;
        fixed = c.in_ok-identity.ensures.fixed;
      };
      has_read = record {
        identified = g.B.Bus.state c.identify_saved.new.bus;
        only_reads = c.identify_saved.ensures.leaves;
        after = c.scan_saved.ensures.leaves.nature.history;
        identity = c.in_ok-identity.identity;
        same = refl;
        replied = c.in_ok-identity.ensures.identifies.replied;
        status = rw (c.in_ok-changes.ensures.changes.one, c.in_ok-changes.ensures.changes.two) refl;
      };
    }

pub returns-in_err-identity-clause-errors : goal.returns-in_err-identity-clause-errors
returns-in_err-identity-clause-errors g c =
    let returned = errors_more differing c.args.journal.now most_identity (most_identity + length c.args.journal.now.saved)
    (g.B.Bus.state c.args.bus.now) (g.B.Bus.state c.identify_saved.new.bus) c.in_err-identity.field-0.0 (omega arith)
    (c.in_err-identity.ensures.errors differing) in
    grind (arith, common_steps, returned)

pub returns-in_err-identity-clause-leaves : goal.returns-in_err-identity-clause-leaves
returns-in_err-identity-clause-leaves g c = search (rules, arith, only_reads_more)

pub returns-clause-leaves : goal.returns-clause-leaves
returns-clause-leaves g c = search (rules, only_reads_then)

pub returns-in_err-changes-clause-leaves : goal.returns-in_err-changes-clause-leaves
returns-in_err-changes-clause-leaves g c = search (rules, only_reads_then)

pub returns-in_err-scanned-clause-leaves : goal.returns-in_err-scanned-clause-leaves
returns-in_err-scanned-clause-leaves g c = search (rules, only_reads_then)
