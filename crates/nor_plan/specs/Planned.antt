use Rattle.std.specs.Prelude.{ℕ, ◌≡◌, ◌≤◌, ◌-◌, ◌%◌, Bool, ◌&&◌, if◌then◌else◌, List, length, map, filter, Option, MatchOption, [], ◌∷◌}
use Rattle.std.specs.List.{list_all, range_with_len}
use Rattle.nor_model.specs.declared.config.Kinds.{Kinds}
use Rattle.nor_driver.specs.declared.units.Erase.{Erase}
use Rattle.nor_driver.specs.declared.units.EraseBlock.{EraseBlock}
use Rattle.nor_driver.specs.declared.units.EraseBlock.TheVariants.{Sector, Block32, Block64, Chip}
use Rattle.nor_driver.specs.Units.{is_aligned}
use Rattle.nor_plan.specs.Erase.{Covers}

unfoldable pub holds_run : (ℕ → Bool) → (from count : ℕ) → Bool
holds_run set from count = list_all set (range_with_len from count)

abbrev pub holds_block : (ℕ → Bool) → (count sector : ℕ) → Bool
holds_block set count sector = holds_run set (sector - sector % count) count

-- The kind of erase block that is planned for a `sector` of `set`: the whole chip if `whole` is true. Otherwise the
-- largest kind (64, 32 or 4 KiB) that the chip supports and whose aligned block with `sector` lies in `set`.
unfoldable pub planned_block : Bool → Kinds → (ℕ → Bool) → ℕ → EraseBlock
planned_block whole kinds set sector =
    if whole then Chip
    else if kinds.k64 && holds_block set 16 sector then Block64
    else if kinds.k32 && holds_block set 8 sector then Block32
    else Sector

abbrev pub begins_block : Bool → Kinds → (ℕ → Bool) → ℕ → Bool
begins_block whole kinds set sector = set sector && is_aligned (planned_block whole kinds set sector) sector

abbrev pub erase_at : Bool → Kinds → (ℕ → Bool) → ℕ → Erase
erase_at whole kinds set sector = record { unit = planned_block whole kinds set sector; sector = sector }

unfoldable pub planned_from : Bool → Kinds → (ℕ → Bool) → ℕ → List Erase
planned_from whole kinds set from =
    map (erase_at whole kinds set) (filter (begins_block whole kinds set) (range_with_len from (4096 - from)))

-- Holds if `head` is the first planned erase from sector `from` on and a sector from which the others are planned, or
-- `None` if no erase is planned from `from` on.
abbrev pub HeadsPlanned : Bool → Kinds → (ℕ → Bool) → ℕ → Option (Erase × ℕ) → Type 0
HeadsPlanned whole kinds set from head =
    MatchOption head (planned_from whole kinds set from ≡ [])
    (λ h. planned_from whole kinds set from ≡ h.0 ∷ planned_from whole kinds set h.1)

abbrev pub planned : Kinds → ℕ → (ℕ → Bool) → List Erase
planned kinds total set = planned_from (holds_run set 0 total) kinds set 0

-- The number of erases planned for `set`. It is the least possible if `set` lies on a chip of at most 4,096 sectors.
abbrev pub fewest_erases : Kinds → ℕ → (ℕ → Bool) → ℕ
fewest_erases kinds total set = length (planned kinds total set)

pub record IsLeastLength (kinds : Kinds) (total : ℕ) (set : ℕ → Bool) (count : ℕ) : Type 0 where
  pub some : List Erase
  pub covers : Covers kinds total some set
  pub reached : length some ≡ count
  pub least : (others : List Erase) → Covers kinds total others set → count ≤ length others
