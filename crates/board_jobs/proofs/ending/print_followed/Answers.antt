use Rattle.std.proofs.Common.{◌++◌, ℕ, List, Option, false, refl}
use Rattle.std.proofs.KnownBytes.{Appends-trans}
use Rattle.std.proofs.lemmas.Result.{on_ok_weaker}
use Rattle.std.specs.Io.KnownBytes.{Appends}
use Rattle.nor_console.specs.AnswerLines.{AreLines}
use Rattle.nor_console.specs.Printing.{Prints}
use Rattle.nor_console.specs.declared.answers.Answer.{Answer}
use Rattle.board_jobs.specs.Further.{further_line}
use Rattle.board_jobs.specs.Ending.{AreLinesBy}
use Rattle.board_jobs.specs.declared.ending.Further.{Further}
use Rattle.board_jobs.proofs.ending.print_followed.Goals as goal

one-more : (found : Answer) (further : Further) (a b c : Option (List ℕ)) → Prints (AreLines found) a b
    → Appends b c (further_line further) → Prints (AreLinesBy false further found) a c
one-more found further a b c printed appended = (
  printed.0 ++ further_line further,
  (printed.0, printed.1, refl),
  Appends-trans a b c printed.0 (further_line further) printed.2 appended,
)

pub returns : goal.returns
returns g c = on_ok_weaker c.print_further.result
    (one-more c.args.answer c.args.further _ _ _ c.in_ok-print_answer.ensures) c.print_further.ensures
