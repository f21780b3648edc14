use Rattle.std.proofs.Common.{◌≡◌, ◌+◌, ◌-◌, ◌*◌, ◌∙◌, arith, rules}
use Rattle.nor_driver.proofs.RestsInTurn.{only_reads_after}
use Rattle.nor_plan.proofs.Parts.{part_long}
use Rattle.nor_read.proofs.Pieces.{pieced_none, pieced_more}
use Rattle.nor_read.proofs.reading.read_piece.Goals as goal

pub loop-k-init : goal.loop-k-init
loop-k-init g c = search (rules, pieced_none)

pub loop-k-preserved : goal.loop-k-preserved
loop-k-preserved g c =
    let k = c.loop-k.k in
    let width = 4096 * k + 4096 - 4096 * k in
    let exact : width ≡ 4096 = omega arith in
    pieced_more width (omega arith) exact (omega arith)
    (c.read_part.auto.bytes ∙ part_long c.loop-k.bytes (4096 * k) width exact (omega arith)) c.loop-k.invariant
    c.in_ok-reads.ensures.reads

pub returns-in_err-reads-clause-leaves : goal.returns-in_err-reads-clause-leaves
returns-in_err-reads-clause-leaves g c =
    only_reads_after c.loop-k.reads 1 16 _ _ _ (omega arith) c.loop-k.invariant.honest_reads c.read_part.ensures.leaves

pub returns-clause-reads : goal.returns-clause-reads
returns-clause-reads g c = let end : c.loop-k.k ≡ 16 = omega arith in rw end at c.loop-k.invariant
