use Rattle.std.proofs.Common.{◌≡◌, option_copied, rules}
use Rattle.nor_driver.proofs.Passed.{is_err}
use Rattle.nor_read.proofs.Whole.{report_is, report_of}
use Rattle.nor_read.proofs.ReadOut.{unfound, past, broken, copied_whole}
use Rattle.nor_read.proofs.reading.read_out.Goals as goal

pub returns-in_err-probed : goal.returns-in_err-probed
returns-in_err-probed g c =
    rw (is_err _ _ c.from_residual.ensures.1) (assumption (unfound c.args.named (option_copied c.args.included)
    (g.V.Vault.state c.args.out.now) _ c.find.ensures.leaves c.in_err-probed.ensures.errors))

pub returns-then-reaches_past : goal.returns-then-reaches_past
returns-then-reaches_past g c = assumption (past c.args.named (option_copied c.args.included)
    (g.V.Vault.state c.args.out.now) c.in_ok-probed.ensures.finds c.find.ensures.leaves (search rules))

pub returns-in_err-reads : goal.returns-in_err-reads
returns-in_err-reads g c =
    rw (is_err _ _ c.from_residual-in_err-reads.ensures.1) (assumption (broken c.args.named
    (option_copied c.args.included) (g.V.Vault.state c.args.out.now) c.in_ok-probed.ensures.finds c.find.ensures.leaves
    (search rules) c.copy_all.ensures.leaves _ c.in_err-reads.ensures.errors))

pub returns : goal.returns
returns g c =
    let is : c.report.result ≡ report_of c.in_ok-probed.probed c.in_ok-reads.reads = search report_is in
    rw is (assumption (copied_whole c.args.named (option_copied c.args.included) (g.V.Vault.state c.args.out.now)
    c.in_ok-probed.ensures.finds c.find.ensures.leaves (search rules) c.copy_all.ensures.leaves
    c.in_ok-reads.ensures.reads))
