use Rattle.std.specs.Prelude.{◌≡◌, ℕ, Bool, true, false, Option, None, Some, List, [], ◌∷◌, find, bytes_eq, codes}
use Rattle.std.specs.Prelude.{if◌then◌else◌}
use Rattle.nor_model.specs.Makers.{all_kinds, IsEmulatedWith}
use Rattle.nor_model.specs.declared.config.Config.{Config}
use Rattle.nor_probe.specs.declared.table.ChipName.{ChipName}
use Rattle.nor_probe.specs.declared.table.ChipName.TheVariants.{W25Q64FV, W25Q128FV, Sfdp, Other}
use Rattle.nor_probe.specs.declared.table.ChipName.TheVariants.{W25Q32FV, W25Q32FW, W25Q64FW, W25Q128FW}
use Rattle.nor_probe.specs.declared.table.ChipName.TheVariants.{W25Q32JVM, W25Q64JVM, W25Q128JVM}
use Rattle.nor_probe.specs.declared.table.Part.{Part}

-- The text of a name. No chip has the name `other`, which is the text of `Other`.
abbrev pub name_text : ChipName → List ℕ
name_text W25Q64FV = codes "W25Q64FV"
name_text W25Q128FV = codes "W25Q128FV"
name_text W25Q32FV = codes "W25Q32FV"
name_text W25Q32FW = codes "W25Q32FW"
name_text W25Q64FW = codes "W25Q64FW"
name_text W25Q128FW = codes "W25Q128FW"
name_text W25Q32JVM = codes "W25Q32JV-M"
name_text W25Q64JVM = codes "W25Q64JV-M"
name_text W25Q128JVM = codes "W25Q128JV-M"
name_text Sfdp = codes "SFDP"
name_text Other = codes "other"

-- A row for a Winbond chip, which has all erase types and block protection.
abbrev pub winbond : ChipName → (with_id : List ℕ) → (with_size : ℕ) → Part
winbond called with_id with_size =
    record { name = called; id = with_id; size = with_size; kinds = all_kinds; scheme = true }

abbrev pub chips : List Part
chips =
    winbond W25Q64FV (0xEF ∷ 0x40 ∷ 0x17 ∷ []) 8388608
    ∷ winbond W25Q128FV (0xEF ∷ 0x40 ∷ 0x18 ∷ []) 16777216
    ∷ []

-- The further rows, which apply only on a bus with further types. Their chips take the commands that the engine sends,
-- and have the block protection of the chips in `chips`.
abbrev pub further_chips : List Part
further_chips =
    winbond W25Q32FV (0xEF ∷ 0x40 ∷ 0x16 ∷ []) 4194304
    ∷ winbond W25Q32FW (0xEF ∷ 0x60 ∷ 0x16 ∷ []) 4194304
    ∷ winbond W25Q64FW (0xEF ∷ 0x60 ∷ 0x17 ∷ []) 8388608
    ∷ winbond W25Q128FW (0xEF ∷ 0x60 ∷ 0x18 ∷ []) 16777216
    ∷ winbond W25Q32JVM (0xEF ∷ 0x70 ∷ 0x16 ∷ []) 4194304
    ∷ winbond W25Q64JVM (0xEF ∷ 0x70 ∷ 0x17 ∷ []) 8388608
    ∷ winbond W25Q128JVM (0xEF ∷ 0x70 ∷ 0x18 ∷ []) 16777216
    ∷ []

abbrev pub part_with_id : (of_id : List ℕ) → Option Part
part_with_id of_id = find (λ part. bytes_eq part.id of_id) chips

abbrev pub further_with_id : (of_id : List ℕ) → Option Part
further_with_id of_id = find (λ part. bytes_eq part.id of_id) further_chips

abbrev pub row_or : (other : Option Part) → Option Part → Option Part
row_or other (Some part) = Some part
row_or other None = other

-- The row that applies to a chip with this ID: the row of `chips` or, if `chips` has none and `further` is true, the
-- further row.
abbrev pub part_for : (further : Bool) → (of_id : List ℕ) → Option Part
part_for false of_id = part_with_id of_id
part_for true of_id = row_or (further_with_id of_id) (part_with_id of_id)

abbrev pub part_with_name : (text : List ℕ) → Option Part
part_with_name text = find (λ part. bytes_eq (name_text part.name) text) chips

abbrev pub further_with_name : (text : List ℕ) → Option Part
further_with_name text = find (λ part. bytes_eq (name_text part.name) text) further_chips

abbrev pub name_or : (unlisted : ChipName) → Option Part → ChipName
name_or unlisted (Some part) = part.name
name_or unlisted None = unlisted

abbrev pub name_of : List ℕ → ChipName
name_of text =
    name_or (if bytes_eq text (codes "SFDP") then Sfdp else Other)
    (row_or (further_with_name text) (part_with_name text))

-- The type of the emulated chip TINY64, whose ID isn't in the table.
abbrev pub tiny64 : Part
tiny64 = record { name = Sfdp; id = 0xFE ∷ 0x10 ∷ 0x10 ∷ []; size = 65536; kinds = all_kinds; scheme = false }

abbrev pub emulated_named : (text : List ℕ) → Option Part
emulated_named text = if bytes_eq text (codes "TINY64") then Some tiny64 else part_with_name text

abbrev pub emulated_with_id : (of_id : List ℕ) → Option Part
emulated_with_id of_id = if bytes_eq of_id tiny64.id then Some tiny64 else part_with_id of_id

abbrev pub IsEmulatedPart : Part → Type 0
IsEmulatedPart part = emulated_with_id part.id ≡ Some part

abbrev pub IsMadeOf : Part → Config → Type 0
IsMadeOf part config = IsEmulatedWith part.id part.size part.kinds part.scheme config
