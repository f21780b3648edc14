-- The chip after a session or restore that succeeded, and the counts of its report.
use Rattle.std.specs.Prelude.{◌≡◌, ◌/◌, ◌||◌, ℕ, Bool, true, Ok}
use Rattle.nor_model.specs.declared.config.Config.{Config}
use Rattle.nor_model.specs.Chip.{Chip, status1_of}
use Rattle.nor_model.specs.Bus.{BusState}
use Rattle.nor_driver.specs.StatusWrites.{fixed_of}
use Rattle.nor_geometry.specs.Below.{count_below}
use Rattle.nor_plan.specs.Planned.{IsLeastLength}
use Rattle.nor_probe.specs.Known.{shown_as}
use Rattle.nor_probe.specs.Found.{part_in}
use Rattle.nor_geometry.specs.Counts.{sector_count}
use Rattle.nor_plan.specs.Content.{is_touched, is_raised, once_erased, is_programmed}
use Rattle.nor_request.specs.declared.report.Report.{Report}

-- Holds if `erases` is the length of the shortest list of erase blocks that covers exactly the raised sectors.
abbrev pub AreFewestErases : Config → (old wanted : ℕ → ℕ) → (erases : ℕ) → Type 0
AreFewestErases config old wanted erases = IsLeastLength config.kinds (config.size / 4096) (is_raised old wanted) erases

-- The number of pages of touched sectors that must be programmed after the raised sectors were erased.
abbrev pub pages_of : (old wanted : ℕ → ℕ) → ℕ
pages_of old wanted =
    count_below 65536 (is_programmed (is_touched old wanted) (once_erased (is_raised old wanted) old) wanted)

-- Holds if the chip is idle and has the target bytes, its configuration and the status bits that flashnor never changes
-- are as they were, and WEL is set only if it was before. Nothing is said about the protection bits.
pub record IsTargetChip (wanted : ℕ → ℕ) (old new : Chip) : Type 0 where
  pub config : new.config ≡ old.config
  pub bytes : (a : ℕ) → new.bytes a ≡ wanted a
  pub fixed : fixed_of new.kept ≡ fixed_of old.kept
  pub idle : new.busy ≡ 0
  pub latch : new.latch ≡ true → old.latch ≡ true

-- Holds if the report has the right chip and counts, and exactly the raised sectors were added to the erased sectors.
pub record IsReportedFor (touched raised : ℕ → Bool) (wanted : ℕ → ℕ) (old new : BusState)
    (report : Report) : Type 0 where
  pub worn : (s : ℕ) → new.worn s ≡ (old.worn s || raised s)
  pub shown : shown_as old.further old.chip.config ≡ Ok (part_in report.found)
  pub status1 : report.found.status1 / 4 ≡ old.chip.kept.one
  pub replied : old.chip.busy ≡ 0 → report.found.status1 ≡ status1_of old.chip
  pub sectors : report.touched ≡ sector_count touched
  pub erases : IsLeastLength old.chip.config.kinds (old.chip.config.size / 4096) raised report.erases
  pub programs : report.programs
      ≡ count_below 65536 (is_programmed touched (once_erased raised old.chip.bytes) wanted)

abbrev pub IsReported : (wanted : ℕ → ℕ) → (old new : BusState) → Report → Type 0
IsReported wanted old new report =
    IsReportedFor (is_touched old.chip.bytes wanted) (is_raised old.chip.bytes wanted) wanted old new report
