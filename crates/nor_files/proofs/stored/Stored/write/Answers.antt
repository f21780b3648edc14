use Rattle.std.proofs.Common.{ap, arith}
use Rattle.nor_files.specs.Stored.{IsMixOf}
use Rattle.nor_files.proofs.Changes.{file_writes}
use Rattle.nor_files.proofs.stored.Stored.write.Goals as goal

pub returns-then-most-bytes : goal.returns-then-most-bytes
returns-then-most-bytes c =
    file_writes c.min-most.result c.in_ok-change.ensures c.in-Some.ensures (omega (arith, c.min-most.ensures))
    (ap IsMixOf c.in_ok-copy.ensures) c.in_ok-has-in-Some.ensures (λ any fails. cc)

pub returns : goal.returns
returns c =
    file_writes c.min-most.result c.in_ok-change.ensures c.in-Some.ensures (omega (arith, c.min-most.ensures))
    (ap IsMixOf c.in_ok-copy.ensures) c.in_ok-has-in-Some.ensures (λ any is_ok. c.if-most-bytes.false)
