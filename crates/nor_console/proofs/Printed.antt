use Rattle.std.proofs.Common.{ℕ, ◌+◌, ◌<◌, List, [], ◌∷◌, ◌++◌, Option, add-one, append-nil, flat_map, get_or}
use Rattle.std.proofs.Common.{length, take}
use Rattle.std.proofs.Math.Seq.{take-suc}
use Rattle.std.proofs.lemmas.Grind.{flat_map-append}
use Rattle.std.specs.Io.KnownBytes.{Appends}
use Rattle.std.proofs.KnownBytes.{Appends-trans}
use Rattle.nor_probe.specs.declared.table.Part.{Part}
use Rattle.nor_console.specs.AnswerLines.{chip_line}

pub appends_then : (a b c : Option (List ℕ)) (first second : List ℕ) → Appends a b first → Appends b c second
    → Appends a c (first ++ second)
appends_then = Appends-trans

pub chips_then : (a b c : Option (List ℕ)) (items : List Part) (i : ℕ) (none : Part) → i < length items
    → Appends a b (flat_map chip_line (take i items)) → Appends b c (chip_line (get_or items i none))
    → Appends a c (flat_map chip_line (take (i + 1) items))
chips_then a b c items i none below one two =
    rw (add-one, take-suc items i none below, flat_map-append chip_line (take i items) (get_or items i none ∷ []), append-nil (chip_line (get_or items i none)))
    (appends_then a b c (flat_map chip_line (take i items)) (chip_line (get_or items i none)) one two)
