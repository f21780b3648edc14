use Rattle.std.proofs.Common.{◌≡◌, ◌∙◌, ◌*◌, ℕ, List, ap, refl, sym, true}
use Rattle.nor_model.specs.Chip.{is_locked, kept_in}
use Rattle.nor_plan.specs.SectorSet.{has}
use Rattle.nor_request.specs.declared.refusal.Refusal.TheVariants.{StatusLocked, Protected}
use Rattle.nor_scan.proofs.Held.{lock_same}
use Rattle.nor_scan.proofs.OneVerdict.{some_protected-found, scan_accepted, scan_judged}
use Rattle.nor_scan.proofs.judging.judge_scan.Goals as goal
use Rattle.nor_scan.proofs.judging.judge_scan.Goals.{else-writes-via-then-writes+else-is_locked, else-writes-via-else-writes}

pub returns-then-is_locked-clause-errors : goal.returns-then-is_locked-clause-errors
returns-then-is_locked-clause-errors c = λ further chip image is accepts same.
    let touched = has c.args.touched.now in
    let held = some_protected-found touched chip c.first_protected-held.result (c.first_protected-held.ensures.held further chip is) in
    let read = ap (λ (bytes : List ℕ). is_locked (kept_in bytes)) c.status.ensures in
    let locked : is_locked chip.kept ≡ true =
    sym (lock_same is) ∙ sym read ∙ sym c.is_locked.ensures ∙ c.if-is_locked.true in
    let needs = rw c.if-writes.true at (c.needs_status-writes.ensures further chip touched is (rw c.is_some.ensures held)) in
    scan_judged accepts same StatusLocked (locked, needs)

pub returns-in-None-clause-accepts : goal.returns-in-None-clause-accepts
returns-in-None-clause-accepts c = λ further chip image is accepts same.
    let touched = has c.args.touched.now in
    let none = c.first_protected-held.ensures.held further chip is in
    let held = some_protected-found touched chip c.first_protected-held.result none in
    scan_accepted accepts same (record {
      lifts = λ on. absurd cc;
      free = λ off. rw c.in-None.is at none;
      not_locked = λ locked needs. elim c.else-writes.branch [
        | else-writes-via-then-writes+else-is_locked w ↦
            let same = lock_same is in
            let read = ap (λ (bytes : List ℕ). is_locked (kept_in bytes)) w.status.ensures in absurd cc
        | else-writes-via-else-writes w ↦
            (rw w.if-writes.false at (c.needs_status-writes.ensures further chip touched is (rw c.is_some.ensures held))) needs
      ];
    })

pub returns-in-Some-clause-accepts : goal.returns-in-Some-clause-accepts
returns-in-Some-clause-accepts c = λ further chip image is accepts same.
    let touched = has c.args.touched.now in
    let least = c.first_protected-held.ensures.held further chip is in
    let held = some_protected-found touched chip c.first_protected-held.result least in
    let first = rw c.in-Some.is at least in
    scan_accepted accepts same (record {
      lifts = λ on. (c.if-request.true, record { sector = c.in-Some.field-0; held = first.is });
      free = λ off. absurd cc;
      not_locked = λ locked needs. elim c.else-writes.branch [
        | else-writes-via-then-writes+else-is_locked w ↦
            let same = lock_same is in
            let read = ap (λ (bytes : List ℕ). is_locked (kept_in bytes)) w.status.ensures in absurd cc
        | else-writes-via-else-writes w ↦
            (rw w.if-writes.false at (c.needs_status-writes.ensures further chip touched is (rw c.is_some.ensures held))) needs
      ];
    })

pub returns-in-Some-2-clause-errors : goal.returns-in-Some-2-clause-errors
returns-in-Some-2-clause-errors c = λ further chip image is accepts same.
    let least = c.first_protected-held.ensures.held further chip is in
    scan_judged accepts same (Protected (4096 * c.in-Some-2.sector))
    (c.if-request.false, c.in-Some-2.sector, refl, rw c.in-Some-2.is at least)
