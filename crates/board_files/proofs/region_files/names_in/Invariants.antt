use Rattle.std.proofs.Common.{◌≡◌, map, take}
use Rattle.board_files.specs.Regions.{name_in}
use Rattle.board_files.proofs.region_files.names_in.Given as goal

abbrev pub invariant-loop-entry : goal.invariant-loop-entry
invariant-loop-entry l =
    map (λ name. name.now) l.names.items ≡ map name_in (map (λ entry. entry.now) (take l.entry-index l.entry-items))
