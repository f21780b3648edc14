use Rattle.std.proofs.Common.{rules, arith}
use Rattle.nor_model.proofs.Sizes.{is_chip_size-in_blocks}
use Rattle.nor_journal.proofs.Saved.{saved_few}
use Rattle.nor_driver.proofs.RestsInTurn.{only_reads_after}
use Rattle.nor_session.proofs.Rescanned.{nothing_rescanned, rescanned_more, all_rescanned}
use Rattle.nor_session.proofs.prepare_restore.scan_saved.Goals as goal

pub loop-i-init : goal.loop-i-init
loop-i-init g c = nothing_rescanned c.none-scanned.ensures

pub mark-requires-clause-few : goal.mark-requires-clause-few
mark-requires-clause-few g c =
    let is = c.count-i-end.ensures.sound in
    let few = saved_few c.args.journal.now is in
    let most = (is_chip_size-in_blocks c.args.journal.now.size is.size).small in
    omega arith

pub loop-i-preserved : goal.loop-i-preserved
loop-i-preserved g c =
    let found = c.sector-sector.ensures in
    rescanned_more c.count-i-end.ensures.sound found.value found.whole c.loop-i.invariant
    (rw c.as_sector.ensures.same at c.in_ok-plan.ensures.plans) c.mark.ensures

pub returns-clause-scans : goal.returns-clause-scans
returns-clause-scans g c =
    all_rescanned c.count-i-end.ensures.sound (let end = c.loop-i.auto in search rules) c.loop-i.invariant

pub returns-in_err-plan-clause-leaves : goal.returns-in_err-plan-clause-leaves
returns-in_err-plan-clause-leaves g c =
    only_reads_after _ 1 _ _ _ _ (omega arith) c.loop-i.invariant.honest_reads c.plan_saved.ensures.leaves
