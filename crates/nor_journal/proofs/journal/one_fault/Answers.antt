use Rattle.nor_journal.proofs.OneForm as form
use Rattle.nor_journal.proofs.journal.one_fault.Goals as goal

pub returns : goal.returns
returns c = form.one_fault
