use Rattle.std.proofs.Common.{◌≡◌, option_copied, rules}
use Rattle.nor_driver.proofs.Passed.{is_err}
use Rattle.nor_read.proofs.Whole.{report_is, report_of}
use Rattle.nor_read.proofs.Compared.{unfound, other_size, past, stopped, mismatch, equal}
use Rattle.nor_read.proofs.verifying.verify.Goals as goal

pub returns-in_err-probed : goal.returns-in_err-probed
returns-in_err-probed g c =
    rw (is_err _ _ c.from_residual.ensures.1) (assumption (unfound c.args.named (option_copied c.args.included)
    c.args.image.now _ c.find.ensures.leaves c.in_err-probed.ensures.errors))

pub returns-then-image-size : goal.returns-then-image-size
returns-then-image-size g c = assumption (other_size c.args.named (option_copied c.args.included) c.args.image.now
    c.in_ok-probed.ensures.finds c.find.ensures.leaves (search rules))

pub returns-then-reaches_past : goal.returns-then-reaches_past
returns-then-reaches_past g c = assumption (past c.args.named (option_copied c.args.included) c.args.image.now
    c.in_ok-probed.ensures.finds c.find.ensures.leaves (search rules) (search rules))

pub returns-in_err-compared : goal.returns-in_err-compared
returns-in_err-compared g c =
    rw (is_err _ _ c.from_residual-in_err-compared.ensures.1) (assumption (stopped c.args.named
    (option_copied c.args.included) c.args.image.now c.in_ok-probed.ensures.finds c.find.ensures.leaves
    c.compare_all.ensures.leaves c.in_err-compared.ensures.stops))

pub returns-in-None : goal.returns-in-None
returns-in-None g c =
    let is : c.report.result ≡ report_of c.in_ok-probed.probed c.in_ok-compared.compared.reads = search report_is in
    rw is (assumption (equal c.args.named (option_copied c.args.included) c.args.image.now c.in_ok-probed.ensures.finds
    c.find.ensures.leaves c.compare_all.ensures.leaves (search rules) (search rules) c.in_ok-compared.ensures.compares
    (search rules)))

pub returns-in-Some : goal.returns-in-Some
returns-in-Some g c = assumption (mismatch c.args.named (option_copied c.args.included) c.args.image.now
    c.in_ok-probed.ensures.finds c.find.ensures.leaves c.compare_all.ensures.leaves (search rules) (search rules)
    c.in_ok-compared.ensures.compares c.in-Some.address (search rules))
