use Rattle.std.proofs.Common.{◌≡◌, ◌∷◌, [], All, map, take}
use Rattle.std.specs.Prelude.{filter_map}
use Rattle.board_files.specs.Regions.{AreRangesIn, named_file, pair_in}
use Rattle.board_files.proofs.region_files.find_files.Given as goal

abbrev pub invariant-loop-entry : goal.invariant-loop-entry
invariant-loop-entry l = record {
  entries : map named_file l.files.items
      ≡ filter_map pair_in (map (λ entry. entry.now) (take l.entry-index l.entry-items));
  spans : All (λ region. AreRangesIn l.layout region.name.now (region.span ∷ [])) l.files.items;
}
