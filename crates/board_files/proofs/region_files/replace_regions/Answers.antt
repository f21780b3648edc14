use Rattle.board_files.proofs.RegionBytes.{replaced_at}
use Rattle.board_files.proofs.region_files.replace_regions.Goals as goal

pub loop-region-preserved : goal.loop-region-preserved
loop-region-preserved g c =
    replaced_at _ _ _ _ _ _ _ c.loop-region-test.true c.loop-region.invariant c.in_ok-replace_region.ensures.ok
