use Rattle.std.proofs.Common.{◌≡◌, ◌∙◌, arith, sym}
use Rattle.std.proofs.lemmas.Grind.{common_steps}
use Rattle.nor_session.proofs.CheckingSteps.{checked_none, checked_with, checked_without, failed, all_checked}
use Rattle.nor_session.proofs.checks.check_all.Goals.{then-contains+in_ok-check_sector, else-contains}
use Rattle.nor_session.proofs.checks.check_all.Goals as goal

pub loop-sector-init : goal.loop-sector-init
loop-sector-init g c = checked_none (g.B.Bus.state c.args.bus.now)

pub returns-in_err-check_sector : goal.returns-in_err-check_sector
returns-in_err-check_sector g c =
    let returned = failed c.loop-sector.invariant (sym c.contains.ensures ∙ c.if-contains.true) _ c.sector.ensures.bytes
    (omega arith) c.in_err-check_sector.field-0.0 c.check_sector.ensures.leaves c.in_err-check_sector.ensures.errors
    c.in_err-check_sector.ensures.names c.in_err-check_sector.ensures.replies in
    grind (arith, common_steps, returned)

pub returns-clause-replies : goal.returns-clause-replies
returns-clause-replies g c =
    let end : c.loop-sector.sector ≡ 4096 = omega arith in
    all_checked (rw end at c.loop-sector.invariant)

pub loop-sector-preserved : goal.loop-sector-preserved
loop-sector-preserved g c = elim c.if-contains.branch [
  | then-contains+in_ok-check_sector w ↦
      rw (w.bus-is, w.sent-is) (checked_with c.loop-sector.invariant (sym c.contains.ensures ∙ w.if-contains.true)
      _ w.sector.ensures.bytes w.in_ok-check_sector.ensures.does w.in_ok-check_sector.ensures.replies)
  | else-contains w ↦
      rw (w.bus-is, w.sent-is) (checked_without c.loop-sector.invariant (sym c.contains.ensures ∙ w.if-contains.false))
]
