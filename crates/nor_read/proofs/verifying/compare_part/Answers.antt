use Rattle.std.proofs.Common.{arith, rules}
use Rattle.nor_read.proofs.Differing.{part_skipped, part_read}
use Rattle.nor_read.proofs.verifying.compare_part.Goals as goal

pub returns-then-not-includes_in_sector-clause-compares : goal.returns-then-not-includes_in_sector-clause-compares
returns-then-not-includes_in_sector-clause-compares g c = search (rules, part_skipped)

pub returns-clause-compares : goal.returns-clause-compares
returns-clause-compares g c = part_read _ _ c.read_sector.ensures.leaves c.in_ok-read_sector.ensures.does _
    (omega (arith, c.read_sector.auto.bytes)) c.read_sector.ensures.polled_ready (search rules) c.first_other-first.ensures
