use Rattle.std.proofs.Common.{ℕ, List, Option, refl}
use Rattle.std.specs.Io.KnownBytes.{Appends}
use Rattle.nor_probe.specs.declared.probes.Found.{Found}
use Rattle.nor_console.specs.AnswerLines.{name_line}
use Rattle.nor_console.specs.Printing.{Prints}
use Rattle.nor_console.specs.declared.answers.Answer.TheVariants as answer
use Rattle.nor_args.specs.declared.job.Operation.{Operation}
use Rattle.nor_console.specs.declared.answers.Answer.{Answer}
use Rattle.board_jobs.specs.Further.{further_of}
use Rattle.board_jobs.specs.Ending.{AreJobLines, AreLinesBy, AreNameLines}

pub name_printed : (found : Found) (a b : Option (List ℕ)) → Appends a b (name_line found.name)
    → Prints (AreNameLines (answer.Found found)) a b
name_printed found a b appended = (name_line found.name, refl, appended)

pub job_lines_printed : (operation : Operation) (status : List ℕ) (found : Answer) (a b : Option (List ℕ))
    → Prints (AreLinesBy operation.is_flash_name (further_of operation.task status) found) a b
    → Prints (AreJobLines operation found) a b
job_lines_printed operation status found a b printed = (printed.0, (status, printed.1), printed.2)
