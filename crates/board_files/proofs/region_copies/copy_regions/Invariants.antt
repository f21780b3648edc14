use Rattle.std.proofs.Common.{◌≡◌, All, take, true}
use Rattle.nor_files.specs.Files.{KeepsFile, is_lawful}
use Rattle.board_files.specs.RegionCopies.{IsCopied}
use Rattle.board_files.proofs.region_copies.copy_regions.Given as goal

abbrev pub invariant-loop-index : goal.invariant-loop-index
invariant-loop-index g l = record {
  nature : (g.R.Store.state l.rt).view.nature ≡ (g.R.Store.state l.initial.rt).view.nature;
  output : is_lawful (g.R.Store.state l.initial.rt).view ≡ true
      → KeepsFile l.out (g.R.Store.state l.initial.rt) (g.R.Store.state l.rt);
  copied : All (IsCopied l.bytes.items (g.R.Store.state l.rt).view) (take l.index l.files);
}
