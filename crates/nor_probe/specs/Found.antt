use Rattle.std.specs.Prelude.{◌≡◌, ◌+◌, ◌%◌, ◌≤◌, ◌⊎◌, ℕ, Bool, true, false, List, if◌then◌else◌, ⊤}
use Rattle.std.specs.Prelude.{Option, None, Some, Result, Ok, Err, IfOk, IfErr, OnOk}
use Rattle.nor_model.specs.declared.config.Config.{Config}
use Rattle.nor_model.specs.Chip.{Chip, status1_of}
use Rattle.nor_model.specs.Size.{is_chip_size}
use Rattle.nor_model.specs.Bus.{BusState}
use Rattle.nor_probe.specs.declared.table.ChipName.{ChipName}
use Rattle.nor_probe.specs.declared.table.ChipName.TheVariants.{Sfdp}
use Rattle.nor_probe.specs.declared.table.Part.{Part}
use Rattle.nor_probe.specs.declared.probes.Found.{Found}
use Rattle.nor_probe.specs.declared.probes.Probed.{Probed}
use Rattle.nor_probe.specs.declared.probes.ProbeFault.{ProbeFault}
use Rattle.nor_probe.specs.declared.probes.ProbeFault.TheVariants.{NoChip, UnknownChip, OtherName, Stopped, Timeout}
use Rattle.nor_probe.specs.Table.{part_for}
use Rattle.nor_driver.specs.OnlyReads.{OnlyReads, Rested, Spent, RanOut}
use Rattle.nor_driver.specs.Waits.{latch_when_idle}
use Rattle.nor_probe.specs.Known.{id_of, is_no_chip, shown_as, IsKnown}
pub use Rattle.nor_probe.specs.Known.{part_in}
use Rattle.nor_probe.specs.Replied.{IsFoundBy, ProbeEndsAt}

-- The greatest number of transactions of a probe: 65,536 polls, one read of the ID and three reads of SFDP.
abbrev pub most_probe : ℕ
most_probe = 65540

abbrev pub IsWanted : (named : Option ChipName) → ChipName → Type 0
IsWanted None name = ⊤
IsWanted (Some wanted) name = wanted ≡ name

abbrev pub BlamesName : Option ChipName → ProbeFault → Type 0
BlamesName None OtherName = ⊥
BlamesName named fault = ⊤

-- The number of reads that identify a chip: one of its ID (9Fh), and three of its SFDP (5Ah) if no row applies.
abbrev pub reads_by : Option Part → ℕ
reads_by (Some part) = 1
reads_by None = 4

abbrev pub reads_for : (further : Bool) → List ℕ → ℕ
reads_for further of_id = if is_no_chip of_id then 1 else reads_by (part_for further of_id)

-- The number of transactions that a probe of this chip needs; each BUSY that the chip still shows takes one poll.
abbrev pub needed : (further : Bool) → Chip → ℕ
needed further chip = chip.busy + 1 + reads_for further (id_of chip.config)

-- Holds for each chip that a probe finds, on every bus.
pub record IsPart (further : Bool) (found : Found) : Type 0 where
  pub driven : is_no_chip found.id ≡ false
  pub origin : (part_for further found.id ≡ Some (part_in found))
      ⊎ ((part_for further found.id ≡ None) × (found.name ≡ Sfdp) × (found.scheme ≡ false))
  pub sized : is_chip_size found.size ≡ true
  pub at_least : 65536 ≤ found.size
  pub at_most : found.size ≤ 16777216
  pub in_blocks : found.size % 65536 ≡ 0

pub record IsCounted (old : BusState) (probed : Probed) : Type 0 where
  pub least : 1 + reads_for old.further probed.found.id ≤ probed.transactions
  pub most : probed.transactions ≤ most_probe
  pub sent : old.honest ≡ true → probed.transactions ≡ needed old.further old.chip

pub record Finds (old new : BusState) (found : Found) : Type 0 where
  pub rested : Rested old new
  pub part : shown_as old.further old.chip.config ≡ Ok (part_in found)
  pub idle : new.chip.busy ≡ 0
  pub latch : new.chip.latch ≡ latch_when_idle old.chip
  pub status1 : found.status1 ≡ status1_of new.chip
  pub count : Spent (needed old.further old.chip) old new

pub record IsConfigOf (further : Bool) (config : Config) (found : Found) : Type 0 where
  pub known : IsKnown further config
  pub id : found.id ≡ id_of config
  pub size : found.size ≡ config.size
  pub kinds : found.kinds ≡ config.kinds
  pub scheme : found.scheme ≡ config.scheme

pub record IsNamed (further : Bool) (named : Option ChipName) (config : Config) : Type 0 where
  pub part : Part
  pub shown : shown_as further config ≡ Ok part
  pub wanted : IsWanted named part.name

pub record HasOtherName (further : Bool) (named : Option ChipName) (config : Config) : Type 0 where
  pub part : Part
  pub shown : shown_as further config ≡ Ok part
  pub other : ¬ IsWanted named part.name

pub record HasProbed (old new : BusState) : Type 0 where
  pub rested : Rested old new
  pub count : Spent (needed old.further old.chip) old new

-- Holds if a probe on a well-behaved bus may return this fault.
abbrev pub ProbeErrors : Option ChipName → (old new : BusState) → ProbeFault → Type 0
ProbeErrors named old new NoChip = (shown_as old.further old.chip.config ≡ Err NoChip) × HasProbed old new
ProbeErrors named old new (UnknownChip fault) =
    (shown_as old.further old.chip.config ≡ Err (UnknownChip fault)) × HasProbed old new
ProbeErrors named old new OtherName = HasOtherName old.further named old.chip.config × HasProbed old new
ProbeErrors named old new Stopped = RanOut (needed old.further old.chip) old new × RanOut most_probe old new
ProbeErrors named old new Timeout = ⊥

pub record ProbeAlways (named : Option ChipName) (old new : BusState) (result : Result Found ProbeFault) : Type 0 where
  pub only_reads : OnlyReads most_probe old new
  pub part : IfOk result (IsPart old.further)
  pub wanted : IfOk result (λ found. IsWanted named found.name)
  pub blames : IfErr result (BlamesName named)
  pub polled_ready : OnOk result (new.polled_ready ≡ true)
  pub replied : IfOk result (IsFoundBy old.further new.history)
  pub last_transaction : IfErr result (ProbeEndsAt new.history)

pub record ProbeHonest (named : Option ChipName) (old new : BusState) (result : Result Found ProbeFault) : Type 0 where
  pub finds : IfOk result (Finds old new)
  pub errors : IfErr result (ProbeErrors named old new)

abbrev pub found_in : Result Probed ProbeFault → Result Found ProbeFault
found_in (Ok probed) = Ok probed.found
found_in (Err fault) = Err fault
