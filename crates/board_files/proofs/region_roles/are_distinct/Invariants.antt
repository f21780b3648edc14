use Rattle.std.proofs.Common.{take}
use Rattle.std.specs.List.{AllPairs}
use Rattle.board_files.specs.RegionRoles.{AreTwoFiles}
use Rattle.board_files.proofs.region_roles.are_distinct.Given as goal

abbrev pub invariant-loop-index : goal.invariant-loop-index
invariant-loop-index g l = AllPairs (AreTwoFiles (g.R.Store.state l.rt).view.nature) (take l.index l.files)
