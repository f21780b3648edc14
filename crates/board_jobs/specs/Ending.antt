use Rattle.std.specs.Prelude.{◌≡◌, ◌++◌, ℕ, Bool, true, false, List}
use Rattle.nor_args.specs.declared.job.Operation.{Operation}
use Rattle.nor_console.specs.AnswerLines.{AreLines, name_line}
use Rattle.nor_console.specs.declared.answers.Answer.{Answer}
use Rattle.nor_console.specs.declared.answers.Answer.TheVariants as answer
use Rattle.board_jobs.specs.Further.{further_line, further_of}
use Rattle.board_jobs.specs.declared.ending.Further.{Further}

abbrev pub AreNameLines : Answer → List ℕ → Type 0
AreNameLines (answer.Found found) text = text ≡ name_line found.name
AreNameLines found text = AreLines found text

abbrev pub AreLinesBy : (named : Bool) → Further → Answer → List ℕ → Type 0
AreLinesBy true further found text = AreNameLines found text
AreLinesBy false further found text = (lines : List ℕ) × AreLines found lines × (text ≡ lines ++ further_line further)

abbrev pub AreJobLines : Operation → Answer → List ℕ → Type 0
AreJobLines operation found text =
    (status : List ℕ) × AreLinesBy operation.is_flash_name (further_of operation.task status) found text
