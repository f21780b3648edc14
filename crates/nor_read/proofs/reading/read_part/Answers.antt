use Rattle.std.proofs.Common.{arith, refl, rules}
use Rattle.nor_read.proofs.Copying.{copy_skipped, copy_read}
use Rattle.nor_read.proofs.reading.read_part.Goals as goal

pub returns-then-not-includes_in_sector-clause-reads : goal.returns-then-not-includes_in_sector-clause-reads
returns-then-not-includes_in_sector-clause-reads g c =
    copy_skipped _ _ _ _ _ (search rules) c.includes_in_sector.ensures.test
    c.includes_in_sector.ensures.cases (λ i small. c.fill.ensures.clones i 0 (omega arith) refl)

pub returns-clause-reads : goal.returns-clause-reads
returns-clause-reads g c = copy_read _ _ c.read_sector.ensures.leaves c.in_ok-read_sector.ensures.does
    c.blank_excluded.ensures (omega (arith, c.read_sector.auto.bytes)) c.read_sector.ensures.polled_ready (search rules)
