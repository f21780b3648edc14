use Rattle.std.proofs.Common.{◌≡◌, ◌++◌, codes, take}
use Rattle.std.specs.List.{flat_map}
use Rattle.nor_sums.specs.Sums.{entry_text}
use Rattle.nor_sums.proofs.sheet.encode.Given as goal

abbrev pub invariant-loop-sector : goal.invariant-loop-sector
invariant-loop-sector l = l.out.items
    ≡ codes "NORSUMS1" ++ l.fn.id ++ l.fn.unique ++ flat_map entry_text (take l.sector l.fn.sums.entries.items)
