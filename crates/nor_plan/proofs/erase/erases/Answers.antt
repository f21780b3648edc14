use Rattle.std.proofs.Common.{◌≡◌, ◌/◌, ℕ, Bool, length, rules, refl}
use Rattle.nor_plan.specs.declared.set.SectorSet.{SectorSet}
use Rattle.nor_plan.specs.SectorSet.{has, LiesBelow}
use Rattle.nor_plan.specs.Planned.{holds_run}
use Rattle.nor_plan.proofs.Members.{has-small, member_count-is}
use Rattle.nor_plan.proofs.Coverage.{IsPlannable, planned_Covers}
use Rattle.nor_plan.proofs.Fewest.{planned_fewest, planned_few}
use Rattle.nor_plan.proofs.erase.erases.Goals as goal

plannable : (set : SectorSet) (whole : Bool) (total : ℕ) → length set.words ≡ 64 → whole ≡ holds_run (has set) 0 total
    → LiesBelow set total → IsPlannable whole total (has set)
plannable set whole total long is below = record { whole_is = is; below = below; small = has-small set long }

pub returns-clause-covers : goal.returns-clause-covers
returns-clause-covers c =
    let can = plannable c.args.set.now _ (c.args.size / 4096) (search rules) c.is_run-whole.ensures c.requires in
    rw c.new.ensures (planned_Covers _ c.args.kinds _ _ can 0 refl)

pub returns-clause-fewest : goal.returns-clause-fewest
returns-clause-fewest c others covers =
    let can = plannable c.args.set.now _ (c.args.size / 4096) (search rules) c.is_run-whole.ensures c.requires in
    rw c.new.ensures (planned_fewest _ c.args.kinds _ _ can 0 others covers)

pub returns-clause-few : goal.returns-clause-few
returns-clause-few c = rw c.new.ensures (planned_few c.is_run-whole.result c.args.kinds c.args.set.now 0)

pub returns-clause-counted : goal.returns-clause-counted
returns-clause-counted c end below =
    rw (c.new.ensures, ← member_count-is c.args.set.now (search rules) end below)
    (planned_few c.is_run-whole.result c.args.kinds c.args.set.now 0)
