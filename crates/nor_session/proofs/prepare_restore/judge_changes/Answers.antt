use Rattle.std.proofs.Common.{◌≡◌, ◌≢◌, ◌∙◌, sym, inl, inr, rules}
use Rattle.std.specs.Option.{is_some}
use Rattle.nor_plan.specs.SectorSet.{has}
use Rattle.nor_scan.proofs.Held.{code_same, lock_same}
use Rattle.nor_session.proofs.JudgedStatus.{some_held, some_or_none, none_needed}
use Rattle.nor_session.proofs.prepare_restore.judge_changes.Goals as goal
use Rattle.nor_session.proofs.prepare_restore.judge_changes.Goals.{then-unlock, else-unlock, else-writes-via-then-writes+else-is_locked, else-writes-via-else-writes}

pub returns-clause-accepts : goal.returns-clause-accepts
returns-clause-accepts c = λ further chip is.
    let touched = has c.args.scanned.now.touched in
    let held = c.first_protected.ensures.held further chip is in
    let returned : c.is_some-unlock.result ≡ is_some c.first_protected.result = search rules in
    record {
      lifts = λ hit. some_held c.first_protected.result touched chip held (sym returned ∙ hit);
      free = rw returned (some_or_none c.first_protected.result touched chip held);
      not_locked = λ locked. elim c.else-writes.branch [
        | else-writes-via-then-writes+else-is_locked w ↦ let same = lock_same is in absurd cc
        | else-writes-via-else-writes w ↦ elim c.if-unlock.branch [
          | then-unlock v ↦ absurd (let hit = v.writes-is in let lifted = v.if-unlock.true in let none = w.if-writes.false in cc)
          | else-unlock v ↦
              let opened = code_same is in
              let same : v.code.result ≡ c.code-code.result
              = (let writes = v.writes-is in let none = w.if-writes.false in search rules) in
              none_needed c.args.journal.now touched chip c.first_protected.result held (sym returned ∙ v.if-unlock.false) cc
        ]
      ];
    }

pub returns-then-is_locked-clause-errors : goal.returns-then-is_locked-clause-errors
returns-then-is_locked-clause-errors c = λ further chip is.
    let touched = has c.args.scanned.now.touched in
    let held = c.first_protected.ensures.held further chip is in
    let returned : c.is_some-unlock.result ≡ is_some c.first_protected.result = search rules in
    record {
      locked = let same = lock_same is in cc;
      needs = elim c.if-unlock.branch [
        | then-unlock w ↦ inr (some_held c.first_protected.result touched chip held (sym returned ∙ w.if-unlock.true))
        | else-unlock v ↦
            let opened = code_same is in
            let other : v.code.result ≢ c.code-code.result
            = (let writes = v.writes-is in let some = c.if-writes.true in search rules) in
            inl (λ same. other cc)
      ];
    }
