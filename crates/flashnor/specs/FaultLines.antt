-- The messages about files, or standard output, that could not be written.
use Rattle.std.specs.Prelude.{ℕ, Bool, true, false, List, [], ◌++◌, Option, Some, None, codes}
use Rattle.std.specs.Borrow.{Bor}
use Rattle.nor_args.specs.Text.{Text}
use Rattle.nor_console.specs.FaultLines.{file_text}
use Rattle.nor_console.specs.Messages.{output_name}
use Rattle.nor_console.specs.declared.messages.FileFault.TheVariants as file
use Rattle.flashnor.specs.declared.holding.Unwritten.{Unwritten}

abbrev pub line_of_unwritten : Option (Bor Text) → List ℕ
line_of_unwritten (Some name) = file_text file.Write name.now ++ codes "\n"
line_of_unwritten None = []

abbrev pub lines_of_unwritten : Unwritten → List ℕ
lines_of_unwritten unwritten = line_of_unwritten unwritten.image
    ++ (line_of_unwritten unwritten.status
    ++ (line_of_unwritten unwritten.trace ++ line_of_unwritten unwritten.journal))

abbrev pub line_of_output : List ℕ
line_of_output = file_text file.Write output_name ++ codes "\n"

abbrev pub line_if_lost : (is_printed : Bool) → List ℕ
line_if_lost true = []
line_if_lost false = line_of_output
