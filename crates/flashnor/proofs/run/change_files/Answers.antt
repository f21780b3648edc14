use Rattle.std.proofs.Common.{◌∙◌, inr}
use Rattle.std.proofs.lemmas.Result.{err_from_is_err_and}
use Rattle.nor_chip.specs.Sim.{sim_state}
use Rattle.nor_files.specs.Files.{AreAtRest}
use Rattle.flashnor.proofs.Ended.{ends_called, holds_reported}
use Rattle.flashnor.proofs.AfterCall.{does_after, setup_done}
use Rattle.flashnor.proofs.Kept.{holds_task, keeps_files, ready_both}
use Rattle.nor_console.proofs.Lent.{lawful_after}
use Rattle.flashnor.proofs.Traced.{fails_before, view_before}
use Rattle.flashnor.proofs.WrittenBack.{reported_before}
use Rattle.flashnor.proofs.Before.{keeps_before, roles_after, two_kept}
use Rattle.flashnor.proofs.run.change_files.Goals as goal

pub returns-in_err-called-clause-err : goal.returns-in_err-called-clause-err
returns-in_err-called-clause-err g c =
    let p = err_from_is_err_and c.from_residual-in_err-called.result c.from_residual-in_err-called.ensures.1 in
    rw (p.1, p.2) (inr (inr (fails_before c.args.job.now _ (g.R.Store.state c.args.rt.now)
    (g.R.Store.state c.hold_content.new.rt) c.in_ok-held.ensures.nature c.in_ok-held.ensures.stay
    c.in_err-called.ensures.err)))

pub returns-in_err-called-clause-keeps : goal.returns-in_err-called-clause-keeps
returns-in_err-called-clause-keeps g c = λ rest.
    let held = c.in_ok-held.ensures in
    let lawful1 = lawful_after held.nature rest.lawful in
    let roles1 = roles_after c.args.job.now held.nature c.requires.roles in
    keeps_before (g.R.Store.state c.args.rt.now) (g.R.Store.state c.hold_content.new.rt)
    (g.R.Store.state c.call_on.new.rt) rest held.nature held.stay (held.no_more rest) c.args.job.now c.requires.roles
    c.requires.changes (c.in_err-called.ensures.others lawful1)
    (c.in_err-called.ensures.unmade lawful1
    (two_kept (g.R.Store.state c.hold_content.new.rt).view.nature c.args.job.now.task _ roles1.trace_journal))

pub returns : goal.returns
returns g c =
    let s0 = g.R.Store.state c.args.rt.now in
    let s1 = g.R.Store.state c.hold_content.new.rt in
    let s2 = g.R.Store.state c.call_on.new.rt in
    let s3 = g.R.Store.state c.write_back.new.rt in
    let job = c.args.job.now in
    let started = c.in_ok-called.ensures.ok in
    let bus = sim_state started.0 in
    let bus' = sim_state c.in_ok-called.called.bus in
    let roles = c.requires.roles in
    let puts = c.requires.changes in
    let held = c.in_ok-held.ensures in
    let opens = started.1.opens in
    let called = c.in_ok-called.ensures in
    let back = c.write_back.ensures in
    let roles2 = roles_after job (called.nature ∙ held.nature) roles in
    let d = started.2 in
    let but = view_before job.programmer.trace s0 s1 d.0 held.nature held.stay d.1 in
    let setup = setup_done job.task d.0 s2 job.programmer job.named _ _ _ puts d.2 in
    let ready = λ (rest : AreAtRest s0). ready_both job c.in_ok-held.held s0 s1 s2 bus bus' roles held.ok opens rest
    (held.held rest) held.nature called.nature called.others setup in
    record {
      ok = ends_called s0 s3 job _ _ _ (record {
        roles = roles;
        nature = back.nature ∙ called.nature ∙ held.nature;
        content = c.in_ok-held.held.content;
        read = held.ok;
        bus = started.0;
        started = started.1;
        new = bus';
        does = (
          d.0,
          but,
          does_after job.programmer s2 s3 back.nature back.others job.task d.0 job.named _ _ _ puts roles2.image_journal
              roles2.status_journal d.2,
        );
        reported = rw puts (
          reported_before _ _ s0.view s2.view (called.nature ∙ held.nature) back.fails.0,
          reported_before _ _ s0.view s2.view (called.nature ∙ held.nature) back.fails.1,
        );
        left = λ rest puts. back.put (roles2.status puts) _ _ (ready rest);
        traced = called.lost;
        kept = reported_before _ _ s0.view s3.view (back.nature ∙ called.nature ∙ held.nature) c.lost_journal.ensures;
      }) c.or_fault-answer.ensures;
      err = tt;
      keeps = λ rest. keeps_files job c.in_ok-held.held s0 s1 s2 bus bus' roles held.ok opens rest (held.held rest)
          held.nature called.nature called.others setup s3 d.0 held.fills_missing c.in_ok-called.called.bus.flash.kept2_in but
          back.others (back.amid (roles2.status puts) _ _ (ready rest)) job.task job.named _ puts
          (called.others (lawful_after held.nature rest.lawful)) roles.image_journal roles.status_journal
          roles.trace_journal d.2;
      holds = λ rest. holds_reported job _ _ _ s0 s3 c.or_fault-answer.ensures (λ found is all. holds_task job
          c.in_ok-held.held s0 s1 s2 bus bus' roles held.ok opens rest (held.held rest) held.nature called.nature
          called.others setup s3 d.0 held.fills_missing c.in_ok-called.called.bus.flash.kept2_in but back.others
          (back.amid (roles2.status puts) _ _ (ready rest)) _ all (back.put (roles2.status puts) _ _ (ready rest)) job.task
          job.named found puts (called.others (lawful_after held.nature rest.lawful)) roles.trace_layout
          roles.trace_wanted roles.image_journal roles.status_journal roles.trace_journal (rw is at d.2));
    }
