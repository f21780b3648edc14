-- The output of a run, and its exit status.
use Rattle.std.specs.Prelude.{◌≡◌, ◌≤◌, ◌↔◌, ◌++◌, ℕ, Bool, true, false, List, Option, Some, None, Result, Ok, Err}
use Rattle.std.specs.Prelude.{IfSome}
use Rattle.std.specs.Borrow.{Bor}
use Rattle.std.specs.Fmt.{option_append}
use Rattle.std.specs.Io.KnownBytes.{Appends}
use Rattle.std.specs.declared.io.Error.{Error}
use Rattle.nor_args.specs.Text.{Text}
use Rattle.nor_console.specs.FaultLines.{line_of}
use Rattle.nor_console.specs.Messages.{IsOfArguments}
use Rattle.nor_console.specs.Printing.{IsAnswered, PrintsAnswer}
use Rattle.flashnor.specs.Details.{detail_in}
use Rattle.flashnor.specs.FaultLines.{line_if_lost, lines_of_unwritten}
use Rattle.flashnor.specs.Streams.{AppendsTo}
use Rattle.nor_console.specs.declared.answers.Answer.{Answer}
use Rattle.flashnor.specs.declared.details.Detail.{Detail}
use Rattle.flashnor.specs.declared.details.Detail.TheVariants.{Unsaid}
use Rattle.flashnor.specs.declared.holding.Unwritten.{Unwritten}
use Rattle.nor_console.specs.declared.causes.Cause.TheVariants as because
use Rattle.nor_console.specs.declared.messages.Fault.{Fault}
use Rattle.nor_console.specs.declared.messages.Fault.TheVariants as end
use Rattle.nor_console.specs.declared.messages.FileFault.TheVariants as file
use Rattle.nor_console.specs.declared.messages.Wording.{Wording}
use Rattle.flashnor.specs.declared.printing.Ending.{Ending}
use Rattle.flashnor.specs.declared.streams.Reports.{Reports}
use Rattle.flashnor.specs.declared.streams.Reports.TheVariants as at

-- the value for a run in which every file was written, no file was lost, and the trace lost no line
abbrev pub all_written : Unwritten
all_written = record { image = None; status = None; trace = None; journal = None }

abbrev pub lines_after : (is_printed : Bool) → Unwritten → List ℕ
lines_after is_printed unwritten = line_if_lost is_printed ++ lines_of_unwritten unwritten

-- the lines that a run with this outcome prints to report faults, or `None` if the text of the fault isn't known
abbrev pub lines_printed : Wording → Detail → Result Answer Fault → (is_printed : Bool) → Unwritten → Option (List ℕ)
lines_printed wording detail (Ok found) is_printed unwritten = Some (lines_after is_printed unwritten)
lines_printed wording detail (Err fault) is_printed unwritten =
    option_append (Some (detail_in wording detail))
    (option_append (line_of wording fault) (Some (lines_of_unwritten unwritten)))

abbrev pub stream_for : Result Answer Fault → (to : Reports) → Reports
stream_for (Ok found) to = at.Errors
stream_for (Err fault) to = to

-- Holds if a run with an answer or help may have this `ending` and change standard error from `err` to `err'`.
pub record EndsWell (is_printed : Bool) (unwritten : Unwritten) (err err' : Option (List ℕ))
    (ending : Ending) : Type 0 where
  pub few : ending.status ≤ 1
  pub exact : (ending.status ≡ 0) ↔ ((is_printed ≡ true) × (unwritten ≡ all_written))
  pub printed : ending.printed ≡ is_printed
  pub reported : ending.reported ≡ true → Appends err err' (lines_after is_printed unwritten)
  pub silent : is_printed ≡ true → unwritten ≡ all_written → err' ≡ err

-- Holds if a run with this fault may have this `ending` and change the stream for the fault from `err` to `err'`.
pub record EndsBadly (wording : Wording) (detail : Detail) (fault : Fault) (unwritten : Unwritten)
    (err err' : Option (List ℕ)) (ending : Ending) : Type 0 where
  pub status : ending.status ≡ 1
  pub printed : ending.printed ≡ false
  pub reported : ending.reported ≡ true → IfSome (lines_printed wording detail (Err fault) false unwritten)
      (Appends err err')

-- Holds if a run with this outcome may have this `ending`. A fault is printed in this wording to the stream `to`.
pub record HasPrinted (wording : Wording) (detail : Detail) (outcome : Result Answer Fault) (unwritten : Unwritten)
    (to : Reports) (out out' err err' : Option (List ℕ)) (ending : Ending) : Type 0 where
  pub few : ending.status ≤ 1
  pub exact : (ending.status ≡ 0) ↔ ((ending.printed ≡ true) × (unwritten ≡ all_written))
  pub printed : ending.printed ≡ true → PrintsAnswer outcome out out'
  pub reported : ending.reported ≡ true → IfSome (lines_printed wording detail outcome ending.printed unwritten)
      (AppendsTo (stream_for outcome to) out out' err err')
  pub no_output : (IsAnswered outcome → ⊥) → (to ≡ at.Output → ⊥) → out' ≡ out
  pub no_errors : (IsAnswered outcome → ⊥) → (to ≡ at.Errors → ⊥) → err' ≡ err
  pub silent : IsAnswered outcome → ending.printed ≡ true → unwritten ≡ all_written → err' ≡ err

abbrev pub EndsWith : (Ending → Type 0) → ℕ → Type 0
EndsWith IsEnding status = (ending : Ending) × IsEnding ending × (status ≡ ending.status)

pub record IsUnread (error : Error) (wording : Wording) (out out' err err' : Option (List ℕ))
    (ending : Ending) : Type 0 where
  pub fault : Fault
  pub of_words : IsOfArguments error fault
  pub prints : HasPrinted wording Unsaid (Err fault) all_written at.Errors out out' err err' ending

-- Holds if a run may end with file fault 1 because it could not open a directory in place of closed standard streams.
pub record IsWithoutStreams (wording : Wording) (out out' err err' : Option (List ℕ)) (ending : Ending) : Type 0 where
  pub name : Bor Text
  pub prints : HasPrinted wording Unsaid (Err (end.File file.Read name because.Unknown)) all_written at.Errors
      out out' err err' ending
  pub status : ending.status ≡ 1
