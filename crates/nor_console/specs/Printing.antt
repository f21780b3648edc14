use Rattle.std.specs.Prelude.{◌≡◌, ℕ, ⊤, List, Option, Result, Ok, Err}
use Rattle.std.specs.Io.KnownBytes.{Appends}
use Rattle.clap.specs.Words.{kind_of}
use Rattle.clap.specs.declared.error.kind.ErrorKind.TheVariants as kind
use Rattle.nor_args.specs.declared.words.UsageFault.TheVariants as usage
use Rattle.nor_console.specs.AnswerLines.{AreLines}
use Rattle.nor_console.specs.declared.answers.Answer.{Answer}
use Rattle.nor_console.specs.declared.messages.Fault.{Fault}
use Rattle.nor_console.specs.declared.messages.Fault.TheVariants as end

-- Holds if a text for which `IsText` holds was appended to a writer, as far as the writer's contents are known.
abbrev pub Prints : (List ℕ → Type 0) → (old new : Option (List ℕ)) → Type 0
Prints IsText old new = (text : List ℕ) × IsText text × Appends old new text

-- Holds if a run has an answer, or if its arguments ask for the help.
abbrev pub IsAnswered : Result Answer Fault → Type 0
IsAnswered (Ok found) = ⊤
IsAnswered (Err (end.Usage (usage.Words error) reason)) = kind_of error ≡ kind.DisplayHelp
IsAnswered (Err fault) = ⊥

-- Holds if the fault is a request for the version, which only programs for hardware print.
abbrev pub AsksForVersion : Fault → Type 0
AsksForVersion (end.Usage (usage.Words error) reason) = kind_of error ≡ kind.DisplayVersion
AsksForVersion fault = ⊥

-- Holds if the lines of the answer were printed, or if the arguments asked for help, whose text isn't specified.
abbrev pub PrintsAnswer : Result Answer Fault → (old new : Option (List ℕ)) → Type 0
PrintsAnswer (Ok found) old new = Prints (AreLines found) old new
PrintsAnswer outcome old new = IsAnswered outcome
