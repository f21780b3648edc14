use Rattle.std.proofs.Common.{◌/◌, inl, inr, arith, rules}
use Rattle.std.proofs.Math.Bool.{and-false}
use Rattle.std.proofs.lemmas.Bool.{cases_lt}
use Rattle.std.proofs.lemmas.Bool.{cases_eq}
use Rattle.nor_plan.specs.SectorSet.{has}
use Rattle.nor_scan.proofs.Held.{code_same, past_end}
use Rattle.nor_scan.proofs.judging.first_protected.Goals as goal
use Rattle.nor_scan.proofs.judging.first_protected.Goals.{else-contains-via-then-contains+else-unit_protected, else-contains-via-else-contains}

pub returns-clause-held : goal.returns-clause-held
returns-clause-held c = λ further chip is s.
    let same = is.config.size in
    elim (cases_lt s (c.args.identity.now.found.size / 4096)) [
      | inl below ↦ c.loop-sector.invariant further chip is s (omega arith)
      | inr past ↦ rw (past_end chip s (omega arith)) (and-false (has c.args.touched.now s))
    ]

pub loop-sector-preserved : goal.loop-sector-preserved
loop-sector-preserved c = λ further chip is s below.
    let size = is.config.size in let scheme = is.config.scheme in let code = code_same is in
    elim (cases_eq s c.loop-sector.sector) [
      | inl here ↦ rw here (elim c.else-contains.branch [
        | else-contains-via-then-contains+else-unit_protected w ↦ search (rules, arith)
        | else-contains-via-else-contains w ↦ search (rules, arith)
      ])
      | inr other ↦ c.loop-sector.invariant further chip is s (omega arith)
    ]
