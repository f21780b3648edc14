use Rattle.std.proofs.Common.{◌≡◌, ◌/◌, arith, rules}
use Rattle.nor_driver.proofs.RestsInTurn.{only_reads_after}
use Rattle.nor_read.proofs.Differing.{compared_none, compared_more}
use Rattle.nor_read.proofs.verifying.compare_all.Goals as goal

pub loop-sector-init : goal.loop-sector-init
loop-sector-init g c = search (rules, compared_none)

pub loop-sector-preserved : goal.loop-sector-preserved
loop-sector-preserved g c = rw c.or-first.ensures (compared_more (omega arith) c.loop-sector.invariant
    c.in_ok-part.ensures.compares)

pub returns-in_err-part-clause-leaves : goal.returns-in_err-part-clause-leaves
returns-in_err-part-clause-leaves g c = only_reads_after c.loop-sector.reads 1 (c.args.size / 4096) _ _ _ (omega arith)
    c.loop-sector.invariant.honest_reads c.compare_part.ensures.leaves

pub returns-clause-compares : goal.returns-clause-compares
returns-clause-compares g c =
    let end : c.loop-sector.sector ≡ c.args.size / 4096 = omega arith in rw end at c.loop-sector.invariant
