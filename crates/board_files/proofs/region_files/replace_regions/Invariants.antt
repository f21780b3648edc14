use Rattle.std.proofs.Common.{take}
use Rattle.board_files.specs.Regions.{AreReplaced}
use Rattle.board_files.proofs.region_files.replace_regions.Given as goal

abbrev pub invariant-loop-region : goal.invariant-loop-region
invariant-loop-region g l =
    AreReplaced (g.R.Store.state l.rt).view (take l.region-index l.files) l.fn.bytes l.bytes
