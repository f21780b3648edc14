use Rattle.std.proofs.Common.{◌≡◌, ℕ, Bool, List, Option, Some, Result, Err, IfSome, arith}
use Rattle.std.proofs.Common.{false, true}
use Rattle.std.specs.Fmt.{option_append}
use Rattle.std.specs.Io.KnownBytes.{Appends}
use Rattle.nor_console.proofs.Printed.{appends_then}
use Rattle.flashnor.specs.Endings.{EndsBadly, EndsWell, HasPrinted}
use Rattle.flashnor.specs.FaultLines.{line_of_output}
use Rattle.nor_console.specs.FaultLines.{line_of}
use Rattle.nor_console.specs.Messages.{IsLostOutput}
use Rattle.nor_console.specs.Printing.{IsAnswered, PrintsAnswer}
use Rattle.nor_console.specs.declared.answers.Answer.{Answer}
use Rattle.flashnor.specs.declared.details.Detail.{Detail}
use Rattle.flashnor.specs.declared.holding.Unwritten.{Unwritten}
use Rattle.nor_console.specs.declared.messages.Fault.{Fault}
use Rattle.nor_console.specs.declared.messages.Fault.TheVariants as end
use Rattle.nor_console.specs.declared.messages.FileFault.TheVariants as file
use Rattle.nor_console.specs.declared.messages.Wording.{Wording}
use Rattle.nor_console.specs.declared.messages.Wording.TheVariants as worded
use Rattle.flashnor.specs.declared.printing.Ending.{Ending}
use Rattle.flashnor.specs.declared.streams.Reports.{Reports}
use Rattle.flashnor.specs.declared.streams.Reports.TheVariants as at

pub appends_both : (line : Option (List ℕ)) (a b c : Option (List ℕ)) (others : List ℕ) → IfSome line (Appends a b) → Appends b c others
    → IfSome (option_append line (Some others)) (Appends a c)
appends_both line a b c others one two = grind (arith, appends_then)

pub appends_detail : (first : List ℕ) (rest : Option (List ℕ)) (a b c : Option (List ℕ)) → Appends a b first
    → IfSome rest (Appends b c) → IfSome (option_append (Some first) rest) (Appends a c)
appends_detail first rest a b c one two = grind (arith, appends_then)

pub printed_well : (wording : Wording) (detail : Detail) (outcome : Result Answer Fault) (unwritten : Unwritten)
    (to : Reports)
    (out out' err err' : Option (List ℕ)) (ending : Ending) (is_printed : Bool)
    → IsAnswered outcome → (is_printed ≡ true → PrintsAnswer outcome out out')
    → EndsWell is_printed unwritten err err' ending
    → HasPrinted wording detail outcome unwritten to out out' err err' ending
printed_well wording detail outcome unwritten to out out' err err' ending is_printed answered prints ends = grind arith

pub printed_badly : (wording : Wording) (detail : Detail) (fault : Fault) (unwritten : Unwritten)
    (out err err' : Option (List ℕ)) (ending : Ending)
    → (IsAnswered (Err fault) → ⊥) → EndsBadly wording detail fault unwritten err err' ending
    → HasPrinted wording detail (Err fault) unwritten at.Errors out out err err' ending
printed_badly wording detail fault unwritten out err err' ending never ends = grind arith

pub printed_aside : (wording : Wording) (detail : Detail) (fault : Fault) (unwritten : Unwritten)
    (out out' err : Option (List ℕ)) (ending : Ending)
    → (IsAnswered (Err fault) → ⊥) → EndsBadly wording detail fault unwritten out out' ending
    → HasPrinted wording detail (Err fault) unwritten at.Output out out' err err ending
printed_aside wording detail fault unwritten out out' err ending never ends = grind arith

pub printed_nowhere : (wording : Wording) (detail : Detail) (fault : Fault) (unwritten : Unwritten)
    (out err : Option (List ℕ)) (ending : Ending)
    → (IsAnswered (Err fault) → ⊥) → ending ≡ record { status = 1; printed = false; reported = false }
    → HasPrinted wording detail (Err fault) unwritten at.Nowhere out out err err ending
printed_nowhere wording detail fault unwritten out err ending never ends = grind arith

pub output_line : (fault : Fault) → IsLostOutput fault → line_of worded.Numbered fault ≡ Some line_of_output
output_line (end.File file.Write of cause) is = grind arith
output_line _ is = absurd is
