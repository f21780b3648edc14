use Rattle.std.proofs.Common.{ℕ, suc, ◌≡◌, ◌<◌, ◌≤◌, ◌+◌, ◌-◌, Bool, true, false, [], ◌∷◌, arith}
use Rattle.nor_model.specs.declared.config.Kinds.{Kinds}
use Rattle.nor_plan.specs.Planned.{begins_block, erase_at, planned_from}

pub planned_from-end : (whole : Bool) (kinds : Kinds) (set : ℕ → Bool) (from : ℕ) → 4096 ≤ from
    → planned_from whole kinds set from ≡ []
unfolding planned_from
planned_from-end whole kinds set from past = let none : 4096 - from ≡ 0 = omega arith in rw none

pub planned_from-skip : (whole : Bool) (kinds : Kinds) (set : ℕ → Bool) (from : ℕ) → from < 4096
    → begins_block whole kinds set from ≡ false
    → planned_from whole kinds set (from + 1) ≡ planned_from whole kinds set from
unfolding planned_from
planned_from-skip whole kinds set from there no_unit =
    let more : 4096 - from ≡ suc (4096 - (from + 1)) = omega arith in rw (more, no_unit)

pub planned_from-take : (whole : Bool) (kinds : Kinds) (set : ℕ → Bool) (from : ℕ) → from < 4096
    → begins_block whole kinds set from ≡ true
    → planned_from whole kinds set from ≡ erase_at whole kinds set from ∷ planned_from whole kinds set (from + 1)
unfolding planned_from
planned_from-take whole kinds set from there unit =
    let more : 4096 - from ≡ suc (4096 - (from + 1)) = omega arith in rw (more, unit)
