use Rattle.std.proofs.Common.{inr, refl, rules}
use Rattle.std.proofs.lemmas.Result.{IfErr-weaker, err_from_is_err_and, on_err_weaker}
use Rattle.flashnor.proofs.Doing.{does_read}
use Rattle.flashnor.proofs.Looked.{found_chip, found_size}
use Rattle.flashnor.proofs.Ready.{steady_or_idle-ready, modelled_ready}
use Rattle.flashnor.proofs.Restored.{restored_emulated}
use Rattle.nor_console.proofs.Lent.{stays_same}
use Rattle.flashnor.proofs.jobs.do_task.Goals as goal

pub returns-in-Probe : goal.returns-in-Probe
returns-in-Probe g c = rw c.in-Probe.is (search (rules, stays_same, found_chip, c.answer_probe.ensures))

pub returns-in-FlashSize : goal.returns-in-FlashSize
returns-in-FlashSize g c = rw c.in-FlashSize.is (search (rules, stays_same, found_size, c.report_size.ensures))

pub returns-in-WpStatus : goal.returns-in-WpStatus
returns-in-WpStatus g c = rw c.in-WpStatus.is (search (rules, stays_same))

pub returns-in-WpList : goal.returns-in-WpList
returns-in-WpList g c = rw c.in-WpList.is (search (rules, stays_same))

pub returns-in-Read : goal.returns-in-Read
returns-in-Read g c =
    let read = c.read_to_file.ensures in
    rw c.in-Read.is (record {
      nature = read.nature;
      others = read.others;
      unmade = λ is. on_err_weaker c.read_to_file.result (λ same. tt) read.unsent;
      ok = λ ready. does_read (g.R.Store.state c.args.rt.now).view _ _ _ _ c.args.sources.included _ _
          c.read_to_file.result (rw c.in-Read.is at c.requires) (rw c.as_ref.ensures.value at read.ok);
      err = IfErr-weaker c.read_to_file.result _ _ (λ fault fails. inr fails) read.err;
    })

pub returns-in-Verify : goal.returns-in-Verify
returns-in-Verify g c =
    let read = rw c.in-Verify.is at c.requires in
    rw c.in-Verify.is (record {
      nature = refl;
      others = λ is name not. stays_same name (g.R.Store.state c.args.rt.now);
      unmade = λ is. tt;
      ok = λ ready. record {
        ranges = c.args.sources.included;
        included = read.0;
        image = c.args.sources.bytes.items;
        read = read.1;
        verified = rw (c.deref.ensures.value, c.as_ref-in-Verify.ensures.value) at c.verify_image.ensures;
      };
      err = tt;
    })

pub change_or_rehearse-requires : goal.change_or_rehearse-requires
change_or_rehearse-requires g c =
    let read = rw c.in-Change.is at c.requires in
    record { ranges = read.0; image = read.1 }

pub returns-in-Change : goal.returns-in-Change
returns-in-Change g c =
    let change = c.change_or_rehearse.ensures in
    rw c.in-Change.is (record {
      nature = change.nature;
      others = change.others;
      unmade = change.unmade;
      ok = λ ready. change.ok (modelled_ready _ _ ready) ready.punctual (steady_or_idle-ready _ _ ready);
      err = IfErr-weaker c.change_or_rehearse.result _ _ (λ fault fails. inr fails) change.err;
    })

pub returns-in_err-journal-in-Restore : goal.returns-in_err-journal-in-Restore
returns-in_err-journal-in-Restore g c =
    let p = err_from_is_err_and c.from_residual.result c.from_residual.ensures.1 in
    let read = rw c.in-Restore.is at c.requires in
    rw (p.1, p.2, c.in-Restore.is) (record {
      nature = refl;
      others = λ is name not. stays_same name (g.R.Store.state c.args.rt.now);
      unmade = λ is. search rules;
      ok = λ ready. tt;
      err = inr (_, read, rw c.deref-in-Restore.ensures.value at c.in_err-journal-in-Restore.ensures.err);
    })

pub returns : goal.returns
returns g c =
    let read = rw c.in-Restore.is at c.requires in
    let journal = rw c.deref-in-Restore.ensures.value at c.in_ok-journal-in-Restore.ensures.ok in
    rw c.in-Restore.is (record {
      nature = refl;
      others = λ is name not. stays_same name (g.R.Store.state c.args.rt.now);
      unmade = λ is. tt;
      ok = λ ready. record {
        journal = c.in_ok-journal-in-Restore.journal;
        sound = journal.0;
        read = rw journal.1 at read;
        restored = restored_emulated _ c.args.job.now.named _ _ (modelled_ready _ _ ready) (steady_or_idle-ready _ _ ready) _
            c.restore_named.ensures;
      };
      err = tt;
    })
