-- Names for `-c` in programs for hardware: those of rows of the table of chips, and of other chips with a row's ID.
use Rattle.std.specs.Prelude.{Bool, List, [], ◌∷◌, Option, codes, find, unwrap_or}
use Rattle.std.specs.List.{list_any}
use Rattle.std.specs.Str.{bytes_eq}
use Rattle.nor_probe.specs.Table.{name_of}
use Rattle.nor_probe.specs.declared.table.ChipName.{ChipName}
use Rattle.nor_probe.specs.declared.table.ChipName.TheVariants as row
use Rattle.nor_args.specs.Text.{Text}

-- names, other than the row's own, of chips that have the ID of this row
abbrev pub other_names : ChipName → List Text
other_names row.W25Q32FV =
    codes "W25Q32BV" ∷ codes "W25Q32CV" ∷ codes "W25Q32DV" ∷ codes "W25Q32JV" ∷ codes "W25Q32JV-Q"
    ∷ codes "W25Q32.V" ∷ []
other_names row.W25Q64FV =
    codes "W25Q64BV" ∷ codes "W25Q64CV" ∷ codes "W25Q64JV" ∷ codes "W25Q64JV-Q" ∷ codes "W25Q64JV-.Q"
    ∷ codes "W25Q64BV/W25Q64CV/W25Q64FV" ∷ []
other_names row.W25Q128FV =
    codes "W25Q128BV" ∷ codes "W25Q128JV" ∷ codes "W25Q128JV-Q" ∷ codes "W25Q128.V" ∷ []
other_names row.W25Q32FW = codes "W25Q32DW" ∷ codes "W25Q32JW-Q" ∷ codes "W25Q32.W" ∷ []
other_names row.W25Q64FW = codes "W25Q64DW" ∷ codes "W25Q64JW-Q" ∷ codes "W25Q64.W" ∷ []
other_names row.W25Q128FW = codes "W25Q128JW-Q" ∷ codes "W25Q128.W" ∷ []
other_names row.W25Q32JVM = []
other_names row.W25Q64JVM = codes "W25Q64JV-.M" ∷ []
other_names row.W25Q128JVM = codes "W25Q128.V..M" ∷ []
other_names row.Sfdp = []
other_names row.Other = []

abbrev pub rows_with_names : List ChipName
rows_with_names =
    row.W25Q32FV ∷ row.W25Q64FV ∷ row.W25Q128FV ∷ row.W25Q32FW ∷ row.W25Q64FW ∷ row.W25Q128FW ∷ row.W25Q64JVM
    ∷ row.W25Q128JVM ∷ []

abbrev pub is_among : List Text → Text → Bool
is_among names text = list_any (bytes_eq text) names

abbrev pub other_named : Text → Option ChipName
other_named text = find (λ other. is_among (other_names other) text) rows_with_names

-- the row with the name `text`, or with `text` among its `other_names`; `Sfdp` for `SFDP`, and else `Other`
abbrev pub row_named : Text → ChipName
row_named text = unwrap_or (other_named text) (name_of text)
