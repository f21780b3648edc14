use Rattle.std.specs.Prelude.{ℕ, ◌+◌}
use Rattle.nor_layout.specs.Adding.{region_fault_number}
use Rattle.nor_maps.specs.declared.fault.MapFault.{MapFault}
use Rattle.nor_maps.specs.declared.fault.MapFault.TheVariants.{Missing, Short, Outside, Region}

abbrev pub map_fault_number : MapFault → ℕ
map_fault_number Missing = 1
map_fault_number Short = 2
map_fault_number (Outside number) = 3
map_fault_number (Region number fault) = 3 + region_fault_number fault
