-- The emulated chip as the identification finds it.
use Rattle.std.specs.Prelude.{◌≡◌, Option}
use Rattle.nor_probe.specs.Found.{IsWanted, part_in}
use Rattle.nor_probe.specs.declared.probes.Found.{Found}
use Rattle.nor_probe.specs.declared.table.ChipName.{ChipName}
use Rattle.nor_probe.specs.declared.table.Part.{Part}
use Rattle.nor_args.specs.declared.programmer.Emulated.{Emulated}

abbrev pub emulated_part : Emulated → Part
emulated_part chip = chip.part

abbrev pub HasName : Option ChipName → Emulated → Type 0
HasName named chip = IsWanted named (emulated_part chip).name

pub record IsEmulatedFound (named : Option ChipName) (chip : Emulated) (found : Found) : Type 0 where
  pub part : part_in found ≡ emulated_part chip
  pub name : HasName named chip
