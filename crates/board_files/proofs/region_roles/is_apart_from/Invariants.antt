use Rattle.std.proofs.Common.{All, take}
use Rattle.nor_files.specs.Files.{AreApart}
use Rattle.board_files.proofs.region_roles.is_apart_from.Given as goal

abbrev pub invariant-loop-other : goal.invariant-loop-other
invariant-loop-other g l =
    All (λ other. AreApart (g.R.Store.state l.rt).view.nature l.file other.file.now) (take l.other-index l.earlier)
