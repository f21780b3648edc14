use Rattle.std.proofs.Common.{ap, arith, length}
use Rattle.std.proofs.lemmas.Bool.Decides.{nat_tests}
use Rattle.std.proofs.lemmas.Result.{IfErr-weaker}
use Rattle.board_files.proofs.region_copies.write_region_files.Goals as goal

pub returns-in-Read-clause-err : goal.returns-in-Read-clause-err
returns-in-Read-clause-err g c =
    let tested = c.is_empty.ensures in
    let more = c.if-not-is_empty.true in
    rw (c.in-Read.is, c.if-not-operation.true) (IfErr-weaker c.copy_regions.result _ _
    (λ fault fails. (λ none. let empty = ap length none in grind (arith, nat_tests), fails)) c.copy_regions.ensures.err)
