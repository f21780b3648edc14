-- The printed lines of faults, byte by byte.
use Rattle.std.specs.Prelude.{ℕ, List, [], ◌∷◌, ◌++◌, Option, Some, None, codes, decimal}
use Rattle.std.specs.Fmt.{option_append, with_newline}
use Rattle.std.specs.List.{concat}
use Rattle.nor_layout.specs.Faults.{line_of_fault, layout_fault_number as layout_number}
use Rattle.nor_maps.specs.Faults.{map_fault_number}
use Rattle.nor_request.specs.Refusal.{refusal_number}
use Rattle.nor_request.specs.Texts.{refusal_text}
use Rattle.nor_args.specs.Faults.{usage_fault_text as usage_text}
use Rattle.nor_args.specs.Text.{Text}
use Rattle.nor_console.specs.Causes.{cause_line}
use Rattle.nor_console.specs.Escapes.{escaped}
use Rattle.nor_console.specs.Messages.{file_number}
use Rattle.nor_console.specs.ReasonLines.{journal_line, layout_line, reason_line}
use Rattle.nor_console.specs.declared.messages.Fault.{Fault}
use Rattle.nor_console.specs.declared.messages.Fault.TheVariants as end
use Rattle.nor_console.specs.declared.messages.FileFault.{FileFault}
use Rattle.nor_console.specs.declared.messages.Wording.{Wording}
use Rattle.nor_console.specs.declared.messages.Wording.TheVariants as wording

abbrev pub place : Option ℕ → List ℕ
place (Some number) = codes " at line " ++ decimal number
place None = []

abbrev pub file_text : FileFault → Text → List ℕ
file_text fault name =
    concat (codes "File fault " ∷ decimal (file_number fault) ∷ codes ": " ∷ escaped name ∷ codes "." ∷ [])

abbrev pub explanation_of : Fault → List ℕ
explanation_of (end.Usage fault reason) = reason_line reason
explanation_of (end.Layout fault) = layout_line fault
explanation_of (end.NoRegion name) =
    concat (codes "error: the layout has no region '" ∷ escaped name.now ∷ codes "'\n" ∷ [])
explanation_of end.NoJournal = codes "error: the file is no journal, or is damaged\n"
explanation_of (end.Refused refusal) = journal_line refusal
explanation_of _ = []

-- the line with the number of a fault, without its line feed; `None` for an error of `clap`, whose text isn't specified
abbrev pub numbered_line : Fault → Option (List ℕ)
numbered_line (end.Usage fault reason) = usage_text fault
numbered_line end.NoText = Some (codes "error: invalid UTF-8 was detected in one or more arguments\n\nUsage fault 1.")
numbered_line (end.Layout fault) = Some (concat (codes "Layout fault " ∷ decimal (layout_number fault)
    ∷ place (line_of_fault fault) ∷ codes "." ∷ []))
numbered_line (end.Map fault) = Some (concat (codes "Map fault " ∷ decimal (map_fault_number fault) ∷ codes "." ∷ []))
numbered_line (end.NoRegion name) = Some (codes "Layout fault 8.")
numbered_line (end.File fault name cause) = Some (file_text fault name.now)
numbered_line end.NoJournal = Some (codes "Error 15: journal fault 1.")
numbered_line (end.Refused refusal) = Some (concat (codes "Error " ∷ decimal (refusal_number refusal) ∷ codes ": "
    ∷ refusal_text refusal ∷ codes "." ∷ []))

abbrev pub text_of : Fault → Option (List ℕ)
text_of fault = option_append (Some (explanation_of fault)) (numbered_line fault)

abbrev pub cause_of : Fault → List ℕ
cause_of (end.File fault name cause) = cause_line fault name.now cause
cause_of _ = []

abbrev pub worded : Wording → Fault → Option (List ℕ)
worded wording.Numbered fault = numbered_line fault
worded wording.Explained fault = option_append (Some (cause_of fault)) (text_of fault)

abbrev pub line_of : Wording → Fault → Option (List ℕ)
line_of wording fault = with_newline (worded wording fault)
