-- Where a job's fault is printed if a standard stream prints to one of the job's files.
use Rattle.std.specs.Prelude.{◌≡◌, ℕ, List, Option, true, ⊤}
use Rattle.std.specs.Io.KnownBytes.{Appends}
use Rattle.nor_files.specs.Files.{Nature}
use Rattle.nor_files.specs.Files.Failure.{Printed}
use Rattle.nor_console.specs.declared.messages.Fault.{Fault}
use Rattle.nor_console.specs.declared.messages.Fault.TheVariants as end
use Rattle.nor_console.specs.declared.messages.FileFault.TheVariants as file
use Rattle.flashnor.specs.declared.streams.Reports.{Reports}
use Rattle.flashnor.specs.declared.streams.Reports.TheVariants as to

-- Holds if the fault may be printed to this stream. Every fault may go to standard error. Only file fault 5 may go to
-- standard output or nowhere, if the program may print to the file that this fault names.
abbrev pub IsReportedTo : Nature → Fault → Reports → Type 0
IsReportedTo nature fault to.Errors = ⊤
IsReportedTo nature (end.File file.Taken of cause) where_to = nature.fails (Printed of.now) ≡ true
IsReportedTo nature fault where_to = ⊥

abbrev pub AppendsTo : Reports → (out out' err err' : Option (List ℕ)) → List ℕ → Type 0
AppendsTo to.Errors out out' err err' text = Appends err err' text
AppendsTo to.Output out out' err err' text = Appends out out' text
AppendsTo to.Nowhere out out' err err' text = ⊥
