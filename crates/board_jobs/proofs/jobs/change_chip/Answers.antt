use Rattle.std.proofs.Common.{inl, inr, refl}
use Rattle.std.proofs.lemmas.Result.{IfOk-weaker, MatchResult-weaker, err_from_is_err_and}
use Rattle.board_jobs.proofs.Found.{changed_by, fill_fails, follow_fails, start_fails}
use Rattle.board_jobs.proofs.Sealing.{buffer_unsent, comparison_unsent, fill_unsent}
use Rattle.board_jobs.proofs.jobs.change_chip.Goals as goal

pub returns-in_err-target-clause-err : goal.returns-in_err-target-clause-err
returns-in_err-target-clause-err g c =
    let p = err_from_is_err_and c.from_residual.result c.from_residual.ensures.1 in
    rw (p.1, p.2) (fill_fails c.args.operation.now _ _ c.args.change.now _ _ c.in-Journal.file _ _ _ _ c.in-Journal.is refl
    (rw (c.ranges_if-ranges.ensures, c.as_ref.ensures.value, c.request_for-request.ensures, c.is_compared-compared.ensures) at c.in_err-target.ensures.err))

pub returns-in_err-image-clause-err : goal.returns-in_err-image-clause-err
returns-in_err-image-clause-err g c =
    let p = err_from_is_err_and c.from_residual-in_err-image.result c.from_residual-in_err-image.ensures.1 in
    rw (p.1, p.2, c.in-Journal.is) (start_fails c.args.operation.now _ _ c.args.change.now _ _ c.in-Journal.file
    (g.R.Store.state c.args.rt.now).view _ _
    (rw (c.ranges_if-ranges.ensures, c.as_ref.ensures.value, c.request_for-request.ensures, c.is_compared-compared.ensures) at c.in_ok-target.ensures.ok) refl)

pub returns-in_err-outcome-clause-err : goal.returns-in_err-outcome-clause-err
returns-in_err-outcome-clause-err g c =
    let p = err_from_is_err_and c.from_residual-in_err-outcome.result c.from_residual-in_err-outcome.ensures.1 in
    rw (p.1, p.2, c.in-Journal.is, c.in_err-outcome.ensures.unsent, c.expect_reads.ensures) (start_fails c.args.operation.now
    _ _ c.args.change.now _ _ c.in-Journal.file
    (g.R.Store.state c.args.rt.now).view _ _
    (rw (c.ranges_if-ranges.ensures, c.as_ref.ensures.value, c.request_for-request.ensures, c.is_compared-compared.ensures) at c.in_ok-target.ensures.ok) c.in_err-outcome.ensures.err)

pub returns-clause-ok : goal.returns-clause-ok
returns-clause-ok g c = IfOk-weaker c.compare_chip.result _ _ (λ outcome followed. changed_by c.args.operation.now
    c.args.change.now _ _ _ c.in-Journal.file c.in-Journal.is _ _ _ (g.B.Bus.state c.session_in_file.new.bus) _ outcome
    (rw followed.0 (record {
      changed = g.B.Bus.state c.session_in_file.new.bus;
      session = record {
        found = g.B.Bus.state c.fill_buffer.new.bus;
        image = c.in_ok-target.target.items;
        buffer = rw (c.ranges_if-ranges.ensures, c.as_ref.ensures.value, c.request_for-request.ensures, c.is_compared-compared.ensures) at c.in_ok-target.ensures.ok;
        ran = rw (c.request_for-request.ensures, c.deref_mut.ensures.value, c.in_ok-image.ensures, c.deref.ensures.value, c.expect_reads.ensures) at c.in_ok-outcome.ensures.ok;
      };
      followed = rw (c.is_compared-compared.ensures, c.deref-2.ensures.value) at followed.1;
    }))) c.compare_chip.ensures.ok

pub returns-clause-err : goal.returns-clause-err
returns-clause-err g c = MatchResult-weaker c.compare_chip.result c.compare_chip.ensures.err (λ outcome is. is)
    (λ fault fails. follow_fails c.args.operation.now c.args.change.now _ _ _ c.in-Journal.file c.in-Journal.is _ _ _ _ _
    c.in_ok-outcome.outcome fault (record {
      found = g.B.Bus.state c.fill_buffer.new.bus;
      image = c.in_ok-target.target.items;
      buffer = rw (c.ranges_if-ranges.ensures, c.as_ref.ensures.value, c.request_for-request.ensures, c.is_compared-compared.ensures) at c.in_ok-target.ensures.ok;
      ran = rw (c.request_for-request.ensures, c.deref_mut.ensures.value, c.in_ok-image.ensures, c.deref.ensures.value, c.expect_reads.ensures) at c.in_ok-outcome.ensures.ok;
    }) (rw (c.is_compared-compared.ensures, c.deref-2.ensures.value) at fails))

pub returns-in_err-target-clause-sealed : goal.returns-in_err-target-clause-sealed
returns-in_err-target-clause-sealed g c = rw c.in-Journal.is (λ lawful.
    inl (fill_unsent c.args.operation.now.named _ _ _ _ c.args.change.now.wanted _ c.in_err-target.ensures.err))

pub returns-in_err-image-clause-sealed : goal.returns-in_err-image-clause-sealed
returns-in_err-image-clause-sealed g c = rw c.in-Journal.is (λ lawful.
    inl (buffer_unsent c.args.operation.now.named _ _ _ _ c.args.change.now.wanted _ c.in_ok-target.ensures.ok))

pub returns-in_err-outcome-clause-sealed : goal.returns-in_err-outcome-clause-sealed
returns-in_err-outcome-clause-sealed g c =
    rw (c.in-Journal.is, c.in_err-outcome.ensures.unsent, c.expect_reads.ensures) (λ lawful.
    inl (buffer_unsent c.args.operation.now.named _ _ _ _ c.args.change.now.wanted _ c.in_ok-target.ensures.ok))

pub returns-clause-sealed : goal.returns-clause-sealed
returns-clause-sealed g c = rw c.in-Journal.is (λ lawful. inr (record {
  found = g.B.Bus.state c.fill_buffer.new.bus;
  changed = g.B.Bus.state c.session_in_file.new.bus;
  request = _;
  image = _;
  outcome = c.in_ok-outcome.outcome;
  unsent_before = buffer_unsent c.args.operation.now.named _ _ _ _ c.args.change.now.wanted _ c.in_ok-target.ensures.ok;
  session = rw c.expect_reads.ensures at (c.in_ok-outcome.ensures.synced lawful);
  unsent_after = comparison_unsent c.args.operation.now.named _ _ _ _ _ c.compare_chip.result c.compare_chip.ensures.ok
      c.compare_chip.ensures.err;
}))
