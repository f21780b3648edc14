use Rattle.std.proofs.Common.{All, take}
use Rattle.board_files.specs.RegionRoles.{HasOneRole}
use Rattle.board_files.proofs.region_roles.have_file_roles.Given as goal

abbrev pub invariant-loop-region : goal.invariant-loop-region
invariant-loop-region g l = All (λ region.
    HasOneRole (g.R.Store.state l.rt).view.nature l.others.device l.others.log l.others.named region.file)
    (take l.region-index l.files)
