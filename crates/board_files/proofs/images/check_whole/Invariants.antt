use Rattle.std.proofs.Common.{◌≡◌, ◌<◌, ℕ, true}
use Rattle.nor_journal.specs.Saved.{is_saved}
use Rattle.board_files.proofs.images.check_whole.Given as goal

abbrev pub invariant-loop-sector : goal.invariant-loop-sector
invariant-loop-sector l = (s : ℕ) → s < l.sector → is_saved l.fn.journal s ≡ true
