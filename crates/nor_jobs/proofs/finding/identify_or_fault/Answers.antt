use Rattle.nor_jobs.proofs.Identified.{fails_first, found_first}
use Rattle.nor_jobs.proofs.finding.identify_or_fault.Goals as goal

pub returns-clause-ok : goal.returns-clause-ok
returns-clause-ok g c = found_first c.args.named _ _ c.identify_chip.result c.or_fault.result c.identify_chip.ensures
    c.or_fault.ensures

pub returns-clause-err : goal.returns-clause-err
returns-clause-err g c = fails_first c.args.named _ _ c.identify_chip.result c.or_fault.result c.identify_chip.ensures
    c.or_fault.ensures
