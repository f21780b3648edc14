use Rattle.std.proofs.Common.{◌≡◌, ◌<◌, ℕ, Bool, false}
use Rattle.nor_model.specs.Chip.{Chip}
use Rattle.nor_plan.specs.SectorSet.{has}
use Rattle.nor_scan.specs.Saving.{IsIdentityOf, is_touched_protected}
use Rattle.nor_scan.proofs.judging.first_protected.Given as goal

abbrev pub invariant-loop-sector : goal.invariant-loop-sector
invariant-loop-sector l = (further : Bool) (chip : Chip) → IsIdentityOf further chip l.identity → (s : ℕ) → s < l.sector → is_touched_protected (has l.touched) chip s ≡ false
