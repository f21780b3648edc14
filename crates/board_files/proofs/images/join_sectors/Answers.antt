use Rattle.board_files.proofs.Whole.{first_more, first_none, first_same}
use Rattle.board_files.proofs.images.join_sectors.Goals as goal
use Rattle.board_files.proofs.images.join_sectors.Goals.{in-Some+in_ok-extend_from_slice, in_default}

pub loop-sector-init : goal.loop-sector-init
loop-sector-init c = rw c.new-image.ensures.items (first_none c.args.journal.now)

pub loop-sector-preserved : goal.loop-sector-preserved
loop-sector-preserved c = elim c.match-find.branch [
  | in-Some+in_ok-extend_from_slice w ↦ rw (w.image-is, w.in_ok-extend_from_slice.ensures.items)
      (first_more c.args.journal.now c.loop-sector.sector _ _ c.loop-sector.invariant (rw w.in-Some.is at c.find.ensures.value))
  | in_default w ↦ rw w.image-is
      (first_same c.args.journal.now c.loop-sector.sector _ c.loop-sector.invariant (rw w.in_default.is at c.find.ensures.value))
]
