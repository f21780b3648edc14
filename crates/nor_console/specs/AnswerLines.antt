-- The printed lines of each answer, byte by byte.
use Rattle.std.specs.Prelude.{◌≡◌, ℕ, Bool, List, [], ◌∷◌, ◌++◌, Option, Some, None, codes, decimal, flat_map, if◌then◌else◌}
use Rattle.std.specs.Iterator.{Drains}
use Rattle.nor_model.specs.Offered.{ReturnsNextRange}
use Rattle.nor_model.specs.declared.guard.walk.Offered.{Offered}
use Rattle.nor_probe.specs.Table.{chips, name_text}
use Rattle.nor_probe.specs.declared.probes.Found.{Found}
use Rattle.nor_probe.specs.declared.table.ChipName.{ChipName}
use Rattle.nor_probe.specs.declared.table.ChipName.TheVariants.{Sfdp}
use Rattle.nor_probe.specs.declared.table.Part.{Part}
use Rattle.nor_read.specs.declared.protection.Protection.{Protection}
use Rattle.nor_request.specs.declared.report.Report.{Report}
use Rattle.nor_session.specs.declared.rehearsals.Rehearsal.{Rehearsal}
use Rattle.nor_request.specs.Texts.{hex_digits}
use Rattle.nor_console.specs.Lines.{id_digits, line}
use Rattle.nor_console.specs.declared.answers.Answer.{Answer}
use Rattle.nor_console.specs.declared.answers.Answer.TheVariants as answer

abbrev pub chip_line : Part → List ℕ
chip_line part = line (name_text part.name ∷ codes " " ∷ id_digits part.id ∷ codes " " ∷ decimal part.size ∷ [])

abbrev pub name_line : ChipName → List ℕ
name_line name = line (name_text name ∷ [])

-- the lines that `-L` of flashnor prints; `SFDP` is the name of all chips that are known only by their SFDP
abbrev pub chip_lines : List ℕ
chip_lines = flat_map chip_line chips ++ name_line Sfdp

abbrev pub found_line : Found → List ℕ
found_line found = line (codes "Found " ∷ name_text found.name ∷ codes " (" ∷ id_digits found.id ∷ codes "), "
    ∷ decimal found.size ∷ codes " bytes." ∷ [])

abbrev pub size_line : ℕ → List ℕ
size_line size = line (decimal size ∷ [])

abbrev pub read_lines : Report → List ℕ
read_lines report = found_line report.found ++ line (codes "Read " ∷ decimal report.found.size ∷ codes " bytes." ∷ [])

abbrev pub verified_lines : Report → List ℕ
verified_lines report = found_line report.found ++ line (codes "Verified." ∷ [])

abbrev pub counts_line : Report → List ℕ
counts_line report = line (codes "Done: touched " ∷ decimal report.touched ∷ codes ", erases " ∷ decimal report.erases
    ∷ codes ", programs " ∷ decimal report.programs
    ∷ codes ", transactions " ∷ decimal report.transactions ∷ codes "." ∷ [])

abbrev pub done_lines : Report → List ℕ
done_lines report = found_line report.found ++ counts_line report

abbrev pub how_it_went : Bool → List ℕ
how_it_went ended = if ended then codes "ended" else codes "stopped"

abbrev pub stop_line : Bool → List ℕ
stop_line ended = line (codes "Rehearsal: session " ∷ how_it_went ended ∷ codes "." ∷ [])

abbrev pub restores_line : ℕ → List ℕ
restores_line restores = line (codes "Restores: " ∷ decimal restores ∷ codes "." ∷ [])

abbrev pub restored_line : List ℕ
restored_line = line (codes "Chip as before." ∷ [])

abbrev pub rehearsal_lines : Rehearsal → List ℕ
rehearsal_lines rehearsal = stop_line rehearsal.ended ++ (restores_line rehearsal.restores ++ restored_line)

abbrev pub protected_line : Option (ℕ × ℕ) → List ℕ
protected_line (Some (start, len)) = line (codes "Range: 0x" ∷ hex_digits 6 start ∷ codes ",0x" ∷ hex_digits 6 len ∷ [])
protected_line None = line (codes "Range: undefined" ∷ [])

abbrev pub protection_lines : Protection → List ℕ
protection_lines protection = protected_line protection.range
    ++ line (codes "Mode: " ∷ (if protection.locked then codes "locked" else codes "open") ∷ [])

abbrev pub range_line : ℕ × ℕ → List ℕ
range_line range = line (codes "0x" ∷ hex_digits 6 range.0 ∷ codes ",0x" ∷ hex_digits 6 range.1 ∷ [])

-- Holds if `text` consists of the lines of all ranges that the iterator `walk` yields, in order.
abbrev pub AreRangeLines : Offered → List ℕ → Type 0
AreRangeLines walk text =
    (ranges : List (ℕ × ℕ)) × Drains ReturnsNextRange walk ranges × (text ≡ flat_map range_line ranges)

abbrev pub AreLines : Answer → List ℕ → Type 0
AreLines answer.Chips text = text ≡ chip_lines
AreLines (answer.Found found) text = text ≡ found_line found
AreLines (answer.Size size) text = text ≡ size_line size
AreLines (answer.Read report) text = text ≡ read_lines report
AreLines (answer.Verified report) text = text ≡ verified_lines report
AreLines (answer.Done report) text = text ≡ done_lines report
AreLines (answer.Rehearsed rehearsal) text = text ≡ rehearsal_lines rehearsal
AreLines (answer.Protection protection) text = text ≡ protection_lines protection
AreLines (answer.Ranges walk) text = AreRangeLines walk text
