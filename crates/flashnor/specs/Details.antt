-- The exact text of the lines with the values that an error's check compared, or with the system's reason for an error.
use Rattle.std.specs.Prelude.{ℕ, List, [], ◌∷◌, ◌++◌, codes, decimal, slice_index}
use Rattle.std.specs.List.{concat}
use Rattle.nor_probe.specs.Table.{name_text}
use Rattle.nor_request.specs.Texts.{hex_digits}
use Rattle.nor_console.specs.Causes.{system_text}
use Rattle.nor_console.specs.Lines.{id_digits}
use Rattle.nor_console.specs.declared.messages.Wording.{Wording}
use Rattle.nor_console.specs.declared.messages.Wording.TheVariants as worded
use Rattle.flashnor.specs.declared.details.Detail.{Detail}
use Rattle.flashnor.specs.declared.details.Detail.TheVariants as detail

unfoldable pub status_text : List ℕ → List ℕ
status_text status =
    hex_digits 2 (slice_index status 0) ++ (codes " " ++ hex_digits 2 (slice_index status 1))

unfoldable pub unique_text : ℕ → List ℕ
unique_text id = hex_digits 16 id

abbrev pub status_line : (journal chip : List ℕ) → List ℕ
status_line journal chip = concat (codes "error: the journal's status is " ∷ status_text journal
    ∷ codes ", and the chip's " ∷ status_text chip ∷ codes "\n" ∷ [])

abbrev pub unit_line : (journal chip : ℕ) → List ℕ
unit_line journal chip = concat (codes "error: the journal's unique ID is " ∷ unique_text journal
    ∷ codes ", and the chip's " ∷ unique_text chip ∷ codes "\n" ∷ [])

abbrev pub detail_line : Detail → List ℕ
detail_line detail.Unsaid = []
detail_line detail.NoName = codes "error: no known chip has the name of -c (see -L)\n"
detail_line (detail.Name named found) = concat (codes "error: -c names " ∷ name_text named ∷ codes ", and the chip is "
    ∷ name_text found ∷ codes "\n" ∷ [])
detail_line (detail.Chip journal journal_size chip chip_size) = concat (codes "error: the journal's chip has the ID "
    ∷ id_digits journal ∷ codes " and " ∷ decimal journal_size ∷ codes " bytes, and this one " ∷ id_digits chip
    ∷ codes " and " ∷ decimal chip_size ∷ codes "\n" ∷ [])
detail_line (detail.Status journal chip) = status_line journal chip
detail_line (detail.Unit journal chip) = unit_line journal chip
detail_line (detail.Journal reason) =
    concat (codes "error: the journal can't be written: " ∷ system_text reason ∷ codes "\n" ∷ [])
detail_line (detail.Output reason) =
    concat (codes "error: the output can't be written: " ∷ system_text reason ∷ codes "\n" ∷ [])

abbrev pub detail_in : Wording → Detail → List ℕ
detail_in worded.Numbered compared = []
detail_in worded.Explained compared = detail_line compared
