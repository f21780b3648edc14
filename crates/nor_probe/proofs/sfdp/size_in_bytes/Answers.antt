use Rattle.std.proofs.Common.{rules}
use Rattle.nor_probe.specs.Sfdp.{size_in_bits}
use Rattle.nor_probe.proofs.SfdpLemmas.{chip_size, size_of_power}
use Rattle.nor_probe.proofs.sfdp.size_in_bytes.Goals as goal

pub returns-then-bits-clause-value : goal.returns-then-bits-clause-value
unfolding size_in_bits
returns-then-bits-clause-value c = search (rules, size_of_power)

pub returns-then-bits-clause-sized : goal.returns-then-bits-clause-sized
returns-then-bits-clause-sized c = search (rules, chip_size)
