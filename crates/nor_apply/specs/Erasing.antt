-- The effect of the erases of a set of sectors.
use Rattle.std.specs.Prelude.{◌≡◌, ◌≤◌, ◌*◌, ◌/◌, ◌++◌, ◌&&◌, ℕ, Bool, true, List, length}
use Rattle.nor_model.specs.Chip.{Chip}
use Rattle.nor_model.specs.Sent.{Sent, begins_erase, targets, has_sent}
use Rattle.nor_model.specs.Bus.{BusState}
use Rattle.nor_driver.specs.Limits.{erasing, SendsExactly, Leaves}
use Rattle.nor_driver.specs.Operations.{most_operation}
use Rattle.nor_model.specs.declared.config.Kinds.{Kinds}
use Rattle.nor_plan.specs.Planned.{planned}
use Rattle.nor_apply.specs.declared.tally.Tally.{Tally}
use Rattle.nor_geometry.specs.Counts.{sector_count}
use Rattle.nor_apply.specs.Change.{CanChange, IsSized, MayChange, HasChanged, blank}
use Rattle.nor_apply.specs.Spending.{Tallies, may_target}

abbrev pub is_erase_of : (sector : ℕ) → (out : List ℕ) → Bool
is_erase_of sector out = begins_erase out && targets out sector

pub record SendsErases (sectors : ℕ → Bool) (old new : BusState) : Type 0 where
  pub later : Sent
  pub added : new.sent ≡ later ++ old.sent
  pub each : (s : ℕ) → sectors s ≡ true → has_sent (is_erase_of s) later ≡ true

pub record CanEraseAll (sectors : ℕ → Bool) (kinds : Kinds) (size : ℕ) (chip : Chip) : Type 0 where
  pub can : CanChange sectors chip
  pub sized : IsSized size kinds chip

abbrev pub LeavesErases : (sectors : ℕ → Bool) → Kinds → (size : ℕ) → (old new : BusState) → Type 0
LeavesErases sectors kinds size =
    Leaves (most_operation * sector_count sectors) (erasing (may_target sectors size) (sector_count sectors))
    (CanEraseAll sectors kinds size) (MayChange sectors sectors blank)

-- Holds after the planned erases of `sectors` succeeded, with the counts in `tally`.
pub record DoesErases (sectors : ℕ → Bool) (kinds : Kinds) (size : ℕ) (old new : BusState)
    (tally : Tally) : Type 0 where
  pub count : tally.count ≡ length (planned kinds (size / 4096) sectors)
  pub fewer : tally.count ≤ sector_count sectors
  pub exactly : SendsExactly tally.count 0 0 old new
  pub targeted : SendsErases sectors old new
  pub tallies : Tallies 0 old new tally
  pub done : old.honest ≡ true → CanEraseAll sectors kinds size old.chip → HasChanged sectors blank sectors old new
