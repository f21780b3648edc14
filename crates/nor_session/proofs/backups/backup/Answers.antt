use Rattle.std.proofs.Common.{◌≡◌, ◌∙◌, true, refl, arith, inr}
use Rattle.std.proofs.lemmas.Result.{err_from_is_err_and}
use Rattle.nor_scan.proofs.Replied.{identified_later}
use Rattle.nor_session.proofs.WrittenBack.{known_kept}
use Rattle.nor_session.proofs.ReadyChip.{opening_of}
use Rattle.nor_session.proofs.BackupRestores.{is_backup, backup_restorable}
use Rattle.nor_session.proofs.BackedUp.{is_shown, reads_all, same_after, idle_after, whole_errors, whole_returns, whole_last}
use Rattle.nor_session.proofs.backups.backup.Goals as goal

pub returns-in_err-save_whole-clause-always : goal.returns-in_err-save_whole-clause-always
returns-in_err-save_whole-clause-always g c =
    let opens = c.in_ok-identity.ensures.identifies in let refusal = c.in_err-save_whole.field-0.0 in
    let errors = c.in_err-save_whole.ensures.errors in
    let p = err_from_is_err_and c.from_residual-in_err-save_whole.result c.from_residual-in_err-save_whole.ensures.1 in
    rw (p.1, p.2) (record {
      only_reads = reads_all c.identify.ensures.leaves opens c.save_whole.ensures.leaves;
      sealed = tt;
      answers = whole_returns _ _ _ _ _ refusal errors;
      replied = tt;
      reported = tt;
      polled_ready = tt;
      last_transaction = whole_last _ _ _ _ _ refusal errors;
    })

pub returns-in_err-save_whole-clause-modelled : goal.returns-in_err-save_whole-clause-modelled
returns-in_err-save_whole-clause-modelled g c = λ modelled.
    let only_reads = c.identify.ensures.leaves in let opens = c.in_ok-identity.ensures.identifies in
    let old = (g.B.Bus.state c.args.bus.now).chip in
    let p = err_from_is_err_and c.from_residual-in_err-save_whole.result c.from_residual-in_err-save_whole.ensures.1 in
    rw (p.1, p.2) (record {
      errors = whole_errors only_reads opens _ _ _ c.in_err-save_whole.field-0.0 modelled c.in_err-save_whole.ensures.errors;
      config = tt;
      saves = tt;
      restorable = tt;
      cut = λ telling.
          inr (c.in_err-save_whole.ensures.cut telling (g.B.Bus.state c.args.bus.now).further old (opening_of modelled opens)
          (is_shown only_reads opens modelled));
    })

pub returns-clause-always : goal.returns-clause-always
returns-clause-always g c =
    let only_reads = c.identify.ensures.leaves in let opens = c.in_ok-identity.ensures.identifies in
    let saved = c.in_ok-save_whole.ensures in let sectors = c.from.ensures in
    let least = opens.least in let most = opens.most in
    record {
      only_reads = reads_all only_reads opens c.save_whole.ensures.leaves;
      sealed = saved.seals;
      answers = tt;
      replied = λ telling. record {
        identity = c.in_ok-identity.identity;
        same = refl;
        replied = identified_later saved.reads.nature.history saved.replies opens.replied;
        saves = saved.replied telling;
      };
      reported = record {
        part = opens.part;
        has_name = opens.wanted;
        touched = refl;
        erases = refl;
        programs = refl;
        least = omega arith;
        most = omega arith;
      };
      polled_ready = saved.reads.polled_ready opens.polled_ready;
      last_transaction = tt;
    }

pub returns-clause-modelled : goal.returns-clause-modelled
returns-clause-modelled g c = λ modelled.
    let only_reads = c.identify.ensures.leaves in let opens = c.in_ok-identity.ensures.identifies in
    let saved = c.in_ok-save_whole.ensures in
    let old = (g.B.Bus.state c.args.bus.now).chip in let genuine = opens.genuine modelled in
    let vault = g.V.Vault.state c.save_whole.new.vault in
    let kept = λ (telling : vault.telling ≡ true). is_backup old vault.bytes
    (g.met.B.Bus.reaches c.args.bus.now modelled.honest)
    (saved.saves telling (g.B.Bus.state c.args.bus.now).further old (opening_of modelled opens) (is_shown only_reads opens modelled)) in
    record {
      errors = tt;
      config = genuine;
      saves = kept;
      restorable = λ telling.
          backup_restorable old _ (g.B.Bus.state c.save_whole.new.bus) (known_kept old (saved.reads.nature.further ∙ only_reads.nature.further) genuine.known) (kept telling)
          (same_after only_reads opens modelled saved.reads) (idle_after only_reads opens modelled saved.reads);
      cut = λ telling. tt;
    }
