use Rattle.std.proofs.Common.{rules, arith}
use Rattle.nor_model.proofs.Sizes.{is_chip_size-in_blocks}
use Rattle.nor_journal.proofs.Saved.{saved_few}
use Rattle.nor_session.proofs.MarkedSaved.{nothing_marked, marked_next, all_marked}
use Rattle.nor_session.proofs.prepare_restore.mark_saved.Goals as goal

pub loop-i-init : goal.loop-i-init
loop-i-init c = nothing_marked c.none-scanned.ensures

pub mark-requires-clause-few : goal.mark-requires-clause-few
mark-requires-clause-few c =
    let is = c.count-i-end.ensures.sound in
    let few = saved_few c.args.journal.now is in
    let most = (is_chip_size-in_blocks c.args.journal.now.size is.size).small in
    omega arith

pub loop-i-preserved : goal.loop-i-preserved
loop-i-preserved c =
    marked_next c.count-i-end.ensures.sound c.sector-sector.ensures.value
    c.as_sector.ensures.small c.loop-i.invariant (rw c.plan_rewritten-plan.ensures at c.mark.ensures)

pub returns : goal.returns
returns c = all_marked c.count-i-end.ensures.sound (let end = c.loop-i.auto in search rules) c.loop-i.invariant
