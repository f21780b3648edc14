use Rattle.std.proofs.Common.{sym}
use Rattle.nor_journal.proofs.SectorRecords.{length-sectors_in}
use Rattle.nor_journal.proofs.journal.Journal.count.Goals as goal

pub returns-clause-value : goal.returns-clause-value
returns-clause-value c = rw (← c.self.view_is) (sym (length-sectors_in c.self.inside.count c.self.inside.records.now))
