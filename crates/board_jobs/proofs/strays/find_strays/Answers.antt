use Rattle.board_jobs.proofs.Original.{looked_by, looked_then}
use Rattle.board_jobs.proofs.strays.find_strays.Goals as goal
use Rattle.board_jobs.proofs.strays.find_strays.Goals.{in-Some+in_ok-read_sector+else-ne, in-Some+in_ok-read_sector+then-ne, in_default}

pub returns-in_err-read_sector : goal.returns-in_err-read_sector
returns-in_err-read_sector g c = looked_then c.loop-sector.invariant (looked_by c.read_sector.ensures.leaves)

pub loop-sector-preserved : goal.loop-sector-preserved
loop-sector-preserved g c = elim c.match-before.branch [
  | in-Some+in_ok-read_sector+then-ne w ↦
      rw w.bus-is (looked_then c.loop-sector.invariant (looked_by w.read_sector.ensures.leaves))
  | in-Some+in_ok-read_sector+else-ne w ↦
      rw w.bus-is (looked_then c.loop-sector.invariant (looked_by w.read_sector.ensures.leaves))
  | in_default w ↦ rw w.bus-is c.loop-sector.invariant
]
