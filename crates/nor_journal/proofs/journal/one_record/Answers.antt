use Rattle.nor_journal.proofs.Saved.{saved_record}
use Rattle.nor_journal.proofs.journal.one_record.Goals as goal

pub returns : goal.returns
returns c = saved_record
