use Rattle.std.proofs.Common.{◌≡◌}
use Rattle.board_files.specs.Images.{first_sectors}
use Rattle.board_files.proofs.images.join_sectors.Given as goal

abbrev pub invariant-loop-sector : goal.invariant-loop-sector
invariant-loop-sector l = l.image.items ≡ first_sectors l.fn.journal l.sector
