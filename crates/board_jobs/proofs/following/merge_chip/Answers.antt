use Rattle.std.proofs.Common.{◌≡◌, ◌∙◌, ap, arith, inl, inr, length}
use Rattle.std.proofs.lemmas.Result.{err_from_is_err_and}
use Rattle.board_jobs.proofs.Merged.{merged, whole_again}
use Rattle.board_jobs.proofs.following.merge_chip.Goals as goal

pub returns-in_err-report-clause-err : goal.returns-in_err-report-clause-err
returns-in_err-report-clause-err g c =
    let p = err_from_is_err_and c.from_residual-in_err-report.result c.from_residual-in_err-report.ensures.1 in
    let e = rw c.expect_reads.ensures at c.in_err-report.ensures.err in
    rw (p.1, p.2) (inr (inl (_, e.0, e.1, e.2)))

pub returns-in_err-check_size-2-clause-err : goal.returns-in_err-check_size-2-clause-err
returns-in_err-check_size-2-clause-err g c =
    let p = err_from_is_err_and c.from_residual-in_err-check_size-2.result
    c.from_residual-in_err-check_size-2.ensures.1 in
    let e = c.in_err-check_size-2.ensures.err in
    let len : c.len-2.result ≡ length c.args.image.items = omega (arith, c.args.image.ok.0) in
    rw (p.1, p.2) (inr (inr (record {
      bytes = _;
      report = c.in_ok-report.report;
      read = rw c.expect_reads.ensures at c.in_ok-report.ensures.ok;
      is = rw len at e.0;
      differ = rw len at e.1;
    })))

pub returns-clause-ok : goal.returns-clause-ok
returns-clause-ok g c =
    let filled = rw (c.bytes.ensures, c.deref_mut.ensures.value) at c.fill_rest.ensures in
    let long : length c.fill_rest.new.target ≡ length c.args.image.items
    = c.fill_rest.auto.target ∙ ap length c.deref_mut.ensures.value in
    let is : c.args.image.len ≡ length c.fill_rest.new.target = omega (arith, c.args.image.ok.0, long) in
    let fits : length c.args.image.items ≡ c.in_ok-report.report.found.size
    = omega (arith, c.args.image.ok.0, c.in_ok-check_size-2.ensures.ok) in
    rw (whole_again _ _ _ is) (merged (rw c.expect_reads.ensures at c.in_ok-report.ensures.ok) fits long filled)
