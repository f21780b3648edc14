use Rattle.std.specs.Prelude.{ℕ, Option, Some, None}
use Rattle.nor_layout.specs.declared.fault.LineFault.{LineFault}
use Rattle.nor_layout.specs.declared.fault.LineFault.TheVariants.{Line, Address, Backwards, Name, Twice}
use Rattle.nor_layout.specs.declared.fault.LayoutFault.{LayoutFault}
use Rattle.nor_layout.specs.declared.fault.LayoutFault.TheVariants.{InLine, TooMany, Memory, NoRegion}

abbrev pub number_in_line : LineFault → ℕ
number_in_line Line = 1
number_in_line Address = 2
number_in_line Backwards = 3
number_in_line Name = 4
number_in_line Twice = 5

abbrev pub layout_fault_number : LayoutFault → ℕ
layout_fault_number (InLine line fault) = number_in_line fault
layout_fault_number TooMany = 6
layout_fault_number Memory = 7
layout_fault_number NoRegion = 8

abbrev pub line_of_fault : LayoutFault → Option ℕ
line_of_fault (InLine line fault) = Some line
line_of_fault TooMany = None
line_of_fault Memory = None
line_of_fault NoRegion = None
