use Rattle.std.proofs.Common.{◌≡◌, ◌⊎◌, ◌+◌, ◌/◌, inl, inr, refl, rules, arith}
use Rattle.std.proofs.lemmas.Result.{err_from_is_err_and}
use Rattle.nor_driver.specs.OnlyReads.{OnlyReads}
use Rattle.nor_session.specs.Restore.{IsCheckedFirst, IsSavedByte, FitsReplies}
use Rattle.nor_session.specs.Bounds.{most_reads}
use Rattle.nor_session.proofs.Restoring.{AreChanged, change_last, changed_spends, changed_reads, changed_fits, changed_leaves, changed_can_restore, change_answers, change_not_judged, change_fails, change_errors, change_stops, work_fits, restored_bounded, restored_changing, restored_counted, restored_checked, restored_sparing, restored_done, restored_original}
use Rattle.nor_session.proofs.Changed.{two_writes, no_write}
use Rattle.nor_session.proofs.Naming.{change_names}
use Rattle.nor_session.proofs.ReadBack.{restore_read_back, restore_read_other}
use Rattle.nor_session.proofs.Targeting.{change_programs, change_sends, change_writes}
use Rattle.nor_session.proofs.Protected.{restore_protects}
use Rattle.nor_session.proofs.OfJournal.{restore_of_journal, counted}
use Rattle.nor_session.proofs.restores.change_chip.Goals as goal

pub returns-in_err-work : goal.returns-in_err-work
returns-in_err-work g c =
    let journal = c.args.journal.now in let prepared = c.args.prepared.now in
    let mid = g.B.Bus.state c.args.bus.now in let new = g.B.Bus.state c.finish.new.self.0 in
    let refusal = c.in_err-work.field-0.0 in let errors = c.in_err-work.ensures.errors in
    let leaves = c.finish.ensures.leaves in
    let p = err_from_is_err_and c.from_residual.result c.from_residual.ensures.1 in
    rw (p.1, p.2) (record {
      keeps = λ choice old before.
          let are : AreChanged choice journal prepared old mid new = search rules in
          record {
            restores_original = λ modelled. record {
              within = λ first can. changed_can_restore choice journal first prepared old mid new are modelled can;
              back = λ first can. tt;
              only_stops = λ first can. change_stops choice journal prepared old mid new refusal are modelled errors;
            };
            always =
                let fits : (new.sent ≡ old.sent) ⊎ FitsReplies journal old new =
                inr (changed_fits before.replies are.leaves.spends.nature) in
                let sends = change_sends old are.only_reads.sent are.leaves _ journal (restore_of_journal are.is) in
                let programs = change_programs old are.only_reads.sent are.leaves (IsSavedByte journal)
                (λ a hit. (are.is.saved (a / 4096) hit, refl)) in
                let writes = change_writes old are.only_reads.sent are.leaves (two_writes prepared.changes) in
                let answers = change_answers prepared.changes _ mid new refusal errors in
                let names = change_names prepared.changes refusal are.is.saved c.in_err-work.ensures.names in
                let last = change_last prepared.changes _ mid new refusal errors in
                let read_back = restore_read_other choice journal prepared.changes old mid new
                (changed_reads choice journal prepared old mid new are) are.is.replied refusal
                c.in_err-work.ensures.read_back in
                let spends = changed_spends choice journal prepared old mid new are in
                let only_reads : IsCheckedFirst refusal → OnlyReads (most_reads 4096) old new =
                λ first. absurd (change_not_judged prepared.changes _ mid new refusal errors first) in
                search rules;
            honest = λ honest.
                let honest_errors = change_fails choice journal prepared old mid new refusal are honest errors in
                search rules;
            modelled = λ modelled. record {
              errors = change_errors choice journal prepared old mid new refusal are modelled errors;
              leaves = changed_leaves choice journal prepared old mid new are modelled;
              done = tt;
              unwritten = λ none. change_writes old are.only_reads.sent are.leaves
                  (no_write prepared.changes (λ writes. none ((are.is.modelled modelled).needed writes)));
              spares = λ none. tt;
            };
          };
      thorough = tt;
      announces = record { announced_or_unsent = inl (_, c.announce_changes.ensures); as_reported = tt };
    })

pub overflow_add-result : goal.overflow_add-result
overflow_add-result g c =
    let fits = work_fits c.args.prepared.now _ c.requires.fits c.in_ok-work.ensures.does in omega (arith, fits)

pub returns : goal.returns
returns g c =
    let journal = c.args.journal.now in let prepared = c.args.prepared.now in
    let mid = g.B.Bus.state c.args.bus.now in let new = g.B.Bus.state c.finish.new.self.0 in
    let work = c.in_ok-work.work in let sent = prepared.transactions + work.transactions in
    let does = c.in_ok-work.ensures.does in let leaves = c.finish.ensures.leaves in
    record {
      keeps = λ choice old before.
          let are : AreChanged choice journal prepared old mid new = search rules in
          record {
            restores_original = λ modelled.
                let done = restored_done choice journal prepared old mid new work sent are does modelled in
                record {
                  within = λ first can. changed_can_restore choice journal first prepared old mid new are modelled can;
                  back = λ first can. restored_original choice journal first old new _ can done;
                  only_stops = λ first can. tt;
                };
            always =
                let fits : (new.sent ≡ old.sent) ⊎ FitsReplies journal old new =
                inr (changed_fits before.replies are.leaves.spends.nature) in
                let sends = change_sends old are.only_reads.sent are.leaves _ journal (restore_of_journal are.is) in
                let programs = change_programs old are.only_reads.sent are.leaves (IsSavedByte journal)
                (λ a hit. (are.is.saved (a / 4096) hit, refl)) in
                let writes = change_writes old are.only_reads.sent are.leaves (two_writes prepared.changes) in
                let bounded = restored_bounded choice journal prepared old mid new work sent are does (omega arith) in
                let changing = restored_changing choice journal prepared old mid new work sent are does refl in
                let polled_ready = does.polled_ready are.is.polled_ready in
                let counts = counted old are.only_reads.sent does in
                let protects = restore_protects journal prepared before.has_read are.only_reads.sent
                are.leaves.spends.nature
                are.is.code does.protects in
                let read_back = restore_read_back choice journal prepared.changes old mid new
                (changed_reads choice journal prepared old mid new are) are.is.read are.is.replied work (record {
                  found = prepared.found;
                  touched = prepared.touched;
                  erases = work.erases;
                  programs = work.programs;
                  transactions = sent;
                }) c.in_ok-work.ensures.read_back in
                let spends = changed_spends choice journal prepared old mid new are in
                search rules;
            honest = λ honest.
                let counted = restored_counted choice journal prepared old mid new work sent are does (omega arith) honest in
                let checked = restored_checked choice journal prepared old mid new work sent are does honest in
                search rules;
            modelled = λ modelled. record {
              errors = tt;
              leaves = changed_leaves choice journal prepared old mid new are modelled;
              done = restored_done choice journal prepared old mid new work sent are does modelled;
              unwritten = λ none. change_writes old are.only_reads.sent are.leaves
                  (no_write prepared.changes (λ writes. none ((are.is.modelled modelled).needed writes)));
              spares = λ none. restored_sparing choice journal prepared old mid new work sent are does (omega arith) modelled none;
            };
          };
      thorough = does.in_order;
      announces = record {
        announced_or_unsent = inl (_, c.announce_changes.ensures);
        as_reported = rw does.erases c.announce_changes.ensures;
      };
    }
