use Rattle.serprog_runs.proofs.ReadLayouts.{descriptor_read}
use Rattle.serprog_runs.proofs.chip_layouts.ranges_for.Goals as goal

pub returns-in-Descriptor : goal.returns-in-Descriptor
returns-in-Descriptor c = rw c.in-Descriptor.is (descriptor_read _ c.of.ensures)
