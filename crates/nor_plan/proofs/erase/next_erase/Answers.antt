use Rattle.std.proofs.Common.{◌≡◌, false, sym, ap, ◌∙◌}
use Rattle.std.proofs.lemmas.Bool.{and_from, and_left, and_right}
use Rattle.nor_plan.specs.SectorSet.{has}
use Rattle.nor_driver.specs.Units.{is_aligned}
use Rattle.nor_plan.specs.Planned.{begins_block}
use Rattle.nor_plan.proofs.Planning.{planned_from-end, planned_from-skip, planned_from-take}
use Rattle.nor_plan.proofs.erase.next_erase.Goals as goal
use Rattle.nor_plan.proofs.erase.next_erase.Goals.{then-contains+else-is_aligned, else-contains}

pub returns-then-is_aligned : goal.returns-then-is_aligned
returns-then-is_aligned c =
    let s = c.loop-sector.sector in
    let begins = and_from _ _ (sym c.contains.ensures ∙ c.if-contains.true)
    (ap (λ u. is_aligned u s) (sym c.block_of-unit.ensures) ∙ sym c.is_aligned.ensures ∙ c.if-is_aligned.true) in
    sym c.loop-sector.invariant
    ∙ planned_from-take c.args.whole c.args.kinds (has c.args.set.now) s c.loop-sector-test.true begins
    ∙ rw (c.block_of-unit.ensures)

pub loop-sector-preserved : goal.loop-sector-preserved
loop-sector-preserved c =
    let set = has c.args.set.now in
    let s = c.loop-sector.sector in
    let passed : begins_block c.args.whole c.args.kinds set s ≡ false =
    elim c.if-contains.branch [
      | then-contains+else-is_aligned w ↦ and_right _ _
          (ap (λ u. is_aligned u s) (sym w.block_of-unit.ensures) ∙ sym w.is_aligned.ensures ∙ w.if-is_aligned.false)
      | else-contains w ↦ and_left _ _ (sym c.contains.ensures ∙ w.if-contains.false)
    ] in
    planned_from-skip c.args.whole c.args.kinds set s c.loop-sector-test.true passed ∙ c.loop-sector.invariant

pub returns : goal.returns
returns c =
    sym c.loop-sector.invariant
    ∙ planned_from-end c.args.whole c.args.kinds (has c.args.set.now) c.loop-sector.sector c.loop-sector-test.false
