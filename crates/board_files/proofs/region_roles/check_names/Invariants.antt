use Rattle.std.proofs.Common.{◌≡◌, All, [], take}
use Rattle.board_files.proofs.region_roles.check_names.Given as goal

abbrev pub invariant-loop-region : goal.invariant-loop-region
invariant-loop-region l = All (λ region. ¬ region.file.now ≡ []) (take l.region-index l.files)
