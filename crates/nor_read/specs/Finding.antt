-- Definitions that calls of this crate share: about the identification of the chip, about errors, and about reports.
use Rattle.std.specs.Prelude.{◌≡◌, ◌≤◌, ◌+◌, ◌/◌, ℕ, Bool, true, Option, Ok, List, ⊤}
use Rattle.nor_model.specs.declared.config.Config.{Config}
use Rattle.nor_model.specs.Chip.{status1_of}
use Rattle.nor_model.specs.Bus.{BusState}
use Rattle.nor_driver.specs.OnlyReads.{Rested, Spent, RanOut}
use Rattle.nor_layout.specs.declared.ranges.Span.{Span}
use Rattle.nor_layout.specs.Sectors.{ReachesPast, FitsInto}
use Rattle.nor_probe.specs.declared.table.ChipName.{ChipName}
use Rattle.nor_probe.specs.declared.probes.Found.{Found}
use Rattle.nor_probe.specs.declared.probes.Probed.{Probed}
use Rattle.nor_probe.specs.declared.probes.ProbeFault.TheVariants as Probes
pub use Rattle.nor_probe.specs.Known.{IsModelled}
use Rattle.nor_probe.specs.Known.{shown_as}
pub use Rattle.nor_probe.specs.Found.{IsNamed}
use Rattle.nor_probe.specs.Replied.{IsFoundBy}
use Rattle.nor_probe.specs.Found.{needed, part_in, IsPart, IsWanted, IsConfigOf, ProbeErrors, most_probe}
use Rattle.nor_request.specs.declared.refusal.Refusal.{Refusal}
use Rattle.nor_request.specs.declared.refusal.Refusal.TheVariants.{NoChip, UnknownChip, OtherName, Stopped, Timeout}
use Rattle.nor_request.specs.declared.report.Report.{Report}

-- A bound on the transactions of `wp_status`: 65,540 for a probe, and one to read status 2.
abbrev pub most_status : ℕ
most_status = 65541

pub record IsFound (named : Option ChipName) (old : BusState) (found : Found) : Type 0 where
  pub part : IsPart old.further found
  pub has_name : IsWanted named found.name
  pub shown : old.honest ≡ true → shown_as old.further old.chip.config ≡ Ok (part_in found)
  pub config : IsModelled old → IsConfigOf old.further old.chip.config found

pub record HasFound (named : Option ChipName) (old new : BusState) (probed : Probed) : Type 0 where
  pub is : IsFound named old probed.found
  pub replied : IsFoundBy old.further new.history probed.found
  pub most : probed.transactions ≤ most_probe
  pub polled_ready : new.polled_ready ≡ true
  pub rested : old.honest ≡ true → Rested old new
  pub idle : old.honest ≡ true → new.chip.busy ≡ 0
  pub status1 : old.honest ≡ true → probed.found.status1 ≡ status1_of new.chip
  pub count : old.honest ≡ true → probed.transactions ≡ needed old.further old.chip
  pub fell : old.honest ≡ true → Spent probed.transactions old new

-- Holds if the chip can be identified (`IsNamed`), has the requested name, if any, and ends before an included address.
pub record IsPassed (further : Bool) (named : Option ChipName) (included : Option (List Span))
    (config : Config) : Type 0 where
  pub is : IsNamed further named config
  pub past : ReachesPast included config.size

-- Holds if the chip can be identified (`IsNamed`), has the requested name, if any, and has all included addresses.
pub record IsTaken (further : Bool) (named : Option ChipName) (included : Option (List Span))
    (config : Config) : Type 0 where
  pub is : IsNamed further named config
  pub fits : FitsInto included config.size

-- A bound on the transactions of `read_out` or `verify`, with `size` in bytes: 65,540 for a probe, and one per sector.
abbrev pub most_read : ℕ → ℕ
most_read size = most_probe + size / 4096

-- Holds for each report that `read_out` or `verify` returns, on any bus. `further` says whether further rows of the
-- table of chips apply.
pub record ReportsPart (named : Option ChipName) (further : Bool) (report : Report) : Type 0 where
  pub part : IsPart further report.found
  pub has_name : IsWanted named report.found.name
  pub touched : report.touched ≡ 0
  pub erases : report.erases ≡ 0
  pub programs : report.programs ≡ 0
  pub most : report.transactions ≤ most_read report.found.size

-- Holds for the report of a call that read `reads` sectors after its probe, on a well-behaved bus.
pub record ReportsReads (reads : ℕ) (old new : BusState) (report : Report) : Type 0 where
  pub shown : shown_as old.further old.chip.config ≡ Ok (part_in report.found)
  pub rested : Rested old new
  pub idle : new.chip.busy ≡ 0
  pub status1 : report.found.status1 ≡ status1_of new.chip
  pub count : report.transactions ≡ needed old.further old.chip + reads
  pub fell : Spent report.transactions old new

abbrev pub IsFindRefusal : Refusal → Type 0
IsFindRefusal NoChip = ⊤
IsFindRefusal (UnknownChip fault) = ⊤
IsFindRefusal OtherName = ⊤
IsFindRefusal Stopped = ⊤
IsFindRefusal (Timeout address) = address ≡ 0
IsFindRefusal _ = ⊥

-- Holds if a call that sends at most `most` transactions may return this error on a well-behaved bus.
abbrev pub ReadingErrors : ℕ → Option ChipName → (old new : BusState) → Refusal → Type 0
ReadingErrors most named old new NoChip = ProbeErrors named old new Probes.NoChip
ReadingErrors most named old new (UnknownChip fault) = ProbeErrors named old new (Probes.UnknownChip fault)
ReadingErrors most named old new OtherName = ProbeErrors named old new Probes.OtherName
ReadingErrors most named old new Stopped = RanOut most old new
ReadingErrors most named old new (Timeout address) = ⊥
ReadingErrors most named old new _ = Rested old new
