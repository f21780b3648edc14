-- The effect of the page programs of one sector, and of a set of sectors.
use Rattle.std.specs.Prelude.{◌≡◌, ◌≤◌, ◌<◌, ◌+◌, ◌*◌, ◌/◌, ℕ, Bool, true, false, List, slice_index, bit_and, if◌then◌else◌}
use Rattle.nor_model.specs.Chip.{Chip}
use Rattle.nor_model.specs.Bus.{BusState}
use Rattle.nor_driver.specs.Reads.{IsSectorOf}
use Rattle.nor_driver.specs.ReadsInTurn.{HasOnlyRead}
use Rattle.nor_driver.specs.Limits.{programming, SendsExactly, Leaves}
use Rattle.nor_driver.specs.Operations.{most_operation}
use Rattle.nor_driver.specs.Polls.{AddsTransactions}
use Rattle.nor_apply.specs.declared.tally.Tally.{Tally}
use Rattle.nor_geometry.specs.Below.{count_below}
use Rattle.nor_geometry.specs.Counts.{sector_count}
use Rattle.nor_plan.specs.Content.{is_page_other, is_programmed}
use Rattle.nor_apply.specs.Change.{CanChange, OnlyFalls, MayChange, HasChanged, only, byte_of, is_target_byte}
use Rattle.nor_plan.specs.SectorSet.{none}
use Rattle.nor_apply.specs.Spending.{Tallies}

abbrev pub most_pages : ℕ
most_pages = 16 * most_operation

abbrev pub most_sector : ℕ
most_sector = 1 + most_pages

pub record CanProgramSpans (sector : ℕ) (old wanted : List ℕ) (chip : Chip) : Type 0 where
  pub can : CanChange (only sector) chip
  pub shown : IsSectorOf chip.bytes sector old
  pub falls : (i : ℕ) → i < 4096 → bit_and (slice_index wanted i) (slice_index old i) ≡ slice_index wanted i

pub record CanProgramSector (sector : ℕ) (wanted : List ℕ) (erased : Bool) (chip : Chip) : Type 0 where
  pub can : CanChange (only sector) chip
  pub blank : erased ≡ true → (a : ℕ) → a / 4096 ≡ sector → chip.bytes a ≡ 255
  pub falls : OnlyFalls (only sector) (byte_of sector wanted) chip.bytes

abbrev pub LeavesSector : (most : ℕ) → (Can : Chip → Type 0) → (sector : ℕ) → (wanted : List ℕ) → (old new : BusState)
    → Type 0
LeavesSector most Can sector wanted =
    Leaves most (programming (only sector) (is_target_byte (only sector) (byte_of sector wanted)) 16) Can
    (MayChange (only sector) none (byte_of sector wanted))

pub record DoesSector (readings : ℕ) (Can : Chip → Type 0) (sector : ℕ) (wanted : List ℕ) (old new : BusState)
    (tally : Tally) : Type 0 where
  pub fewer : tally.count ≤ 16
  pub exactly : SendsExactly 0 tally.count 0 old new
  pub tallies : Tallies readings old new tally
  pub done : old.honest ≡ true → Can old.chip → HasChanged (only sector) (byte_of sector wanted) none old new
  pub counted : old.honest ≡ true → Can old.chip
      → tally.count ≡ count_below 16 (λ page. is_page_other old.chip.bytes (byte_of sector wanted) (16 * sector + page))

-- Holds if the sector was read into a buffer. With `erased`, holds if nothing was read and the buffer keeps `bytes`.
pub record LoadsOk (sector : ℕ) (erased : Bool) (bytes bytes' : List ℕ) (old new : BusState) (reads : ℕ) : Type 0 where
  pub reads_once : reads ≡ (if erased then 0 else 1)
  pub added : AddsTransactions reads reads old.history new.history
  pub honest_reads : HasOnlyRead reads old new
  pub kept : erased ≡ true → bytes' ≡ bytes
  pub replied : erased ≡ false → old.honest ≡ true → old.chip.busy ≡ 0 → 4096 * (sector + 1) ≤ old.chip.config.size
      → IsSectorOf old.chip.bytes sector bytes'

pub record CanProgramAll (touched raised : ℕ → Bool) (wanted : ℕ → ℕ) (chip : Chip) : Type 0 where
  pub can : CanChange touched chip
  pub blank : (a : ℕ) → touched (a / 4096) ≡ true → raised (a / 4096) ≡ true → chip.bytes a ≡ 255
  pub falls : OnlyFalls touched wanted chip.bytes

abbrev pub LeavesPrograms : (touched raised : ℕ → Bool) → (wanted : ℕ → ℕ) → (old new : BusState) → Type 0
LeavesPrograms touched raised wanted =
    Leaves (most_sector * sector_count touched)
    (programming touched (is_target_byte touched wanted) (16 * sector_count touched))
    (CanProgramAll touched raised wanted) (MayChange touched none wanted)

pub record DoesPrograms (touched raised : ℕ → Bool) (wanted : ℕ → ℕ) (old new : BusState) (tally : Tally) : Type 0 where
  pub fewer : tally.count ≤ 16 * sector_count touched
  pub exactly : SendsExactly 0 tally.count 0 old new
  pub tallies : Tallies (sector_count touched) old new tally
  pub done : old.honest ≡ true → CanProgramAll touched raised wanted old.chip → HasChanged touched wanted none old new
  pub counted : old.honest ≡ true → CanProgramAll touched raised wanted old.chip
      → tally.count ≡ count_below 65536 (is_programmed touched old.chip.bytes wanted)
