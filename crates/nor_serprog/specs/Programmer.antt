-- The name, limits, clock and features that a programmer reported when it was identified.
use Rattle.std.specs.Prelude.{ℕ, Bool, List, Option}
use Rattle.nor_serprog.specs.declared.programmer.AnyProgrammer.{AnyProgrammer}
use Rattle.nor_serprog.specs.declared.programmer.Programmer.{Programmer}

abbrev pub writes_most : Programmer → ℕ
writes_most programmer = programmer.reported.longest_write

abbrev pub reads_most : Programmer → ℕ
reads_most programmer = programmer.reported.longest_read

abbrev pub has_chip_selects : Programmer → Bool
has_chip_selects programmer = programmer.reported.selects

abbrev pub programmer_name : Programmer → List ℕ
programmer_name programmer = programmer.reported.name

-- The size of the serial buffer in bytes, or 0 if the programmer lacks Q_SERBUF.
abbrev pub buffer_of : Programmer → ℕ
buffer_of programmer = programmer.reported.serial_buffer

abbrev pub any_buffer_of : AnyProgrammer → ℕ
any_buffer_of programmer = programmer.serial_buffer

abbrev pub frequency_of : Programmer → Option ℕ
frequency_of programmer = programmer.reported.frequency
