use Rattle.std.specs.Prelude.{◌≡◌, ◌+◌, ◌<◌, ◌⊎◌, ℕ, Bool, true, false, None, Some, Ok, Err, List, ⊤}
use Rattle.nor_model.specs.declared.config.Config.{Config}
use Rattle.nor_model.specs.Size.{is_chip_size}
use Rattle.nor_model.specs.Bus.{BusState}
use Rattle.nor_probe.specs.declared.sfdp.Geometry.{Geometry}
use Rattle.nor_probe.specs.declared.table.ChipName.{ChipName}
use Rattle.nor_probe.specs.declared.table.ChipName.TheVariants.{Sfdp}
use Rattle.nor_probe.specs.declared.table.Part.{Part}
use Rattle.nor_probe.specs.declared.probes.Parameters.{Parameters}
use Rattle.nor_probe.specs.declared.probes.ProbeFault.{ProbeFault}
use Rattle.nor_probe.specs.declared.probes.ProbeFault.TheVariants.{NoChip, UnknownChip, OtherName, Stopped, Timeout}
use Rattle.nor_driver.specs.declared.waits.OperationError.{OperationError}
use Rattle.nor_driver.specs.declared.waits.OperationError.TheVariants as OperationFails
use Rattle.nor_probe.specs.Table.{part_for}
use Rattle.nor_driver.specs.OnlyReads.{Rested, Spent, RanOut}
use Rattle.nor_probe.specs.Known.{id_of, is_no_chip, shown, pointer_in, chip_says, shown_as}
use Rattle.nor_probe.specs.Found.{reads_for}

abbrev pub fault_of : OperationError → ProbeFault
fault_of OperationFails.Stopped = Stopped
fault_of (OperationFails.Timeout address) = Timeout

abbrev pub reads_under : ChipName → ℕ
reads_under Sfdp = 4
reads_under _ = 1

pub record AreParameters (config : Config) (parameters : Parameters) : Type 0 where
  pub header : parameters.header ≡ shown config 0 8
  pub first : parameters.first ≡ shown config 8 8
  pub table : parameters.table ≡ shown config (pointer_in (shown config 8 8)) 36

pub record IsIdentified (further : Bool) (of_id : List ℕ) (part : Part) : Type 0 where
  pub driven : is_no_chip of_id ≡ false
  pub same_id : part.id ≡ of_id
  pub origin : (part_for further of_id ≡ Some part)
      ⊎ ((part_for further of_id ≡ None) × (part.name ≡ Sfdp) × (part.scheme ≡ false))
  pub sized : is_chip_size part.size ≡ true
  pub reads : reads_under part.name ≡ reads_for further of_id

pub record ReadsParameters (old new : BusState) (parameters : Parameters) : Type 0 where
  pub rested : Rested old new
  pub count : Spent 3 old new
  pub shown : old.chip.busy ≡ 0 → AreParameters old.chip.config parameters

pub record ReadsGeometry (old new : BusState) (geometry : Geometry) : Type 0 where
  pub rested : Rested old new
  pub count : Spent 3 old new
  pub says : old.chip.busy ≡ 0 → chip_says old.chip.config ≡ Ok geometry

-- Holds if a function that reads only the SFDP may return this fault, for an idle chip on a well-behaved bus.
abbrev pub GeometryErrors : (old new : BusState) → ProbeFault → Type 0
GeometryErrors old new (UnknownChip fault) =
    (chip_says old.chip.config ≡ Err fault) × Spent 3 old new × Rested old new
GeometryErrors old new Stopped = RanOut 3 old new
GeometryErrors old new _ = ⊥

-- Holds if a punctual bus carried out the reads of a probe except the read of the ID. `reads_for` counts all reads.
abbrev pub SpentAfterId : (old new : BusState) → Type 0
SpentAfterId old new = old.punctual ≡ true → old.left + 1 ≡ new.left + reads_for old.further (id_of old.chip.config)

abbrev pub IsIdentityFault : ProbeFault → Type 0
IsIdentityFault NoChip = ⊤
IsIdentityFault (UnknownChip fault) = ⊤
IsIdentityFault OtherName = ⊥
IsIdentityFault Stopped = ⊤
IsIdentityFault Timeout = ⊥

pub record Identifies (old new : BusState) (part : Part) : Type 0 where
  pub rested : Rested old new
  pub shows : shown_as old.further old.chip.config ≡ Ok part
  pub count : SpentAfterId old new

abbrev pub IdentityErrors : (old new : BusState) → ProbeFault → Type 0
IdentityErrors old new Stopped =
    old.punctual ≡ true → (new.left ≡ 0) × (old.left + 1 < reads_for old.further (id_of old.chip.config))
IdentityErrors old new fault =
    (shown_as old.further old.chip.config ≡ Err fault) × SpentAfterId old new × Rested old new
