use Rattle.std.proofs.Common.{◌≡◌, ◌⊎◌, ◌+◌, inl, inr, length, rules, arith}
use Rattle.std.proofs.lemmas.Result.{err_from_is_err_and}
use Rattle.nor_scan.specs.Identity.{most_identity}
use Rattle.nor_session.specs.Restore.{differing, FitsReplies}
use Rattle.nor_session.specs.Bounds.{most_reads, most_of}
use Rattle.nor_session.proofs.Restoring.{announces_since, only_reads_most, only_reads_spend, prepare_answers, prepare_fails, prepare_errors, prepare_last, leaves_after_reads, can_restore_after_reads}
use Rattle.nor_session.proofs.RestoredOriginal.{only_stopped}
use Rattle.nor_session.proofs.Naming.{prepare_names}
use Rattle.nor_session.proofs.ReadBack.{prepare_read_back}
use Rattle.nor_session.proofs.Targeting.{none_written, none_programmed, none_sent}
use Rattle.nor_session.proofs.restores.restore_announced.Goals as goal

pub returns-in_err-prepared : goal.returns-in_err-prepared
returns-in_err-prepared g c =
    let journal = c.args.journal.now in let most = most_identity + length journal.saved in
    let old = g.B.Bus.state c.args.bus.now in let new = g.B.Bus.state c.prepare_restore.new.bus in
    let refusal = c.in_err-prepared.field-0.0 in let errors = c.in_err-prepared.ensures.errors in
    let p = err_from_is_err_and c.from_residual.result c.from_residual.ensures.1 in
    let room = c.prepare_restore.ensures.room in let only_reads = c.prepare_restore.ensures.leaves in
    let returned = prepare_errors differing journal most old new refusal (omega arith) in
    rw (p.1, p.2) (record {
      restores_original = λ modelled.
          let returned = returned modelled errors in let honest = modelled.honest in
          search (rules, can_restore_after_reads, only_stopped);
      always =
          let fits : (new.sent ≡ old.sent) ⊎ FitsReplies journal old new = inl only_reads.sent in
          let spends = only_reads_spend most (most_of (length journal.saved)) old new (omega arith) only_reads in
          let only_reads = only_reads_most most (most_reads 4096) old new (omega arith) only_reads in
          let last = prepare_last differing journal most old new refusal errors in
          let answers = prepare_answers differing journal most old new refusal errors in
          let names = prepare_names differing journal most old new refusal errors in
          let read_back = prepare_read_back differing journal most old new refusal errors in
          search (rules, arith, none_sent, none_programmed, none_written);
      honest = λ honest.
          let honest_errors = prepare_fails differing journal most old new refusal (omega arith) honest errors in search rules;
      modelled = λ modelled.
          let returned = returned modelled errors in
          let leaves = leaves_after_reads differing journal most old new (only_reads.honest_reads modelled.honest) in
          search (rules, none_written);
      announces = record { announced_or_unsent = inr only_reads.sent; as_reported = tt };
    })

pub returns : goal.returns
returns g c =
    let old = g.B.Bus.state c.args.bus.now in let before = c.in_ok-prepared.ensures.prepares in
    let keeps = c.change_chip.ensures.keeps differing old before in
    let announces = c.change_chip.ensures.announces in
    record {
      restores_original = keeps.restores_original;
      always = keeps.always;
      honest = keeps.honest;
      modelled = keeps.modelled;
      announces = announces_since before.only_reads.sent announces;
    }
