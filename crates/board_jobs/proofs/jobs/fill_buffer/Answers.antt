use Rattle.std.proofs.Common.{ap, inl, inr, refl, sym}
use Rattle.std.proofs.lemmas.Result.{err_from_is_err_and}
use Rattle.nor_request.specs.declared.refusal.Refusal.TheVariants.{Memory}
use Rattle.board_jobs.specs.declared.chip_faults.JobFault.TheVariants as ended
use Rattle.board_jobs.proofs.Found.{protection_filled, target_fails, target_filled}
use Rattle.board_jobs.proofs.jobs.fill_buffer.Goals as goal

pub returns-then-not-changes_bytes-clause-ok : goal.returns-then-not-changes_bytes-clause-ok
returns-then-not-changes_bytes-clause-ok g c = protection_filled c.args.named _ c.args.bytes.items _ _ c.args.wanted refl
    (sym (rw c.if-not-changes_bytes.true at c.changes_bytes.ensures))

pub returns-in_err-found-clause-err : goal.returns-in_err-found-clause-err
returns-in_err-found-clause-err g c =
    let p = err_from_is_err_and c.from_residual.result c.from_residual.ensures.1 in
    rw (p.1, p.2) (target_fails c.args.named _ _ _ _ c.args.wanted _
    (sym (rw c.if-not-changes_bytes.false at c.changes_bytes.ensures)) (inl c.in_err-found.ensures.err))

pub returns-in_err-asked-clause-err : goal.returns-in_err-asked-clause-err
returns-in_err-asked-clause-err g c =
    let p = err_from_is_err_and c.from_residual-in_err-asked.result c.from_residual-in_err-asked.ensures.1 in
    rw (p.1, p.2) (target_fails c.args.named _ _ _ _ c.args.wanted _
    (sym (rw c.if-not-changes_bytes.false at c.changes_bytes.ensures)) (inr (
      Memory,
      record {
        chip = c.in_ok-found.found;
        found = g.B.Bus.state c.find_changeable.new.bus;
        changeable = c.in_ok-found.ensures.ok;
        fails = inl (refl, refl);
      },
      refl,
    )))

pub returns-in_err-fill_from_chip-clause-err : goal.returns-in_err-fill_from_chip-clause-err
returns-in_err-fill_from_chip-clause-err g c =
    let p = err_from_is_err_and c.from_residual-in_err-fill_from_chip.result
    c.from_residual-in_err-fill_from_chip.ensures.1 in
    let e = rw c.in_ok-asked.ensures.ok at c.in_err-fill_from_chip.ensures.err in
    rw (p.1, p.2) (target_fails c.args.named _ _ _ _ c.args.wanted _
    (sym (rw c.if-not-changes_bytes.false at c.changes_bytes.ensures)) (inr (
      e.0,
      record {
        chip = c.in_ok-found.found;
        found = g.B.Bus.state c.find_changeable.new.bus;
        changeable = c.in_ok-found.ensures.ok;
        fails = inr e.1;
      },
      ap ended.Fault e.2,
    )))

pub returns-clause-ok : goal.returns-clause-ok
returns-clause-ok g c = target_filled c.args.named _ _ _ _ c.args.wanted _
    (sym (rw c.if-not-changes_bytes.false at c.changes_bytes.ensures)) (record {
      chip = c.in_ok-found.found;
      found = g.B.Bus.state c.find_changeable.new.bus;
      changeable = c.in_ok-found.ensures.ok;
      is = rw c.in_ok-asked.ensures.ok at c.in_ok-fill_from_chip.ensures.ok;
    })
