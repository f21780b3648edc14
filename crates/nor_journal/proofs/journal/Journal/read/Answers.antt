use Rattle.nor_journal.proofs.Saves.{reads_kept}
use Rattle.nor_journal.proofs.OneForm.{is_read, ends_whole}
use Rattle.nor_journal.proofs.journal.Journal.read.Goals as goal

pub returns-clause-only : goal.returns-clause-only
returns-clause-only c = λ content is e. is_read c.args.bytes.now c.read_parts.result content c.read_parts.ensures.found c.read_parts.ensures.fault is e

pub returns-clause-kept : goal.returns-clause-kept
returns-clause-kept c = λ head chip saved kept.
    reads_kept c.args.bytes.now c.read_parts.result head chip saved kept (returns-clause-only c kept.content kept.saves.is kept.is)

pub returns-clause-whole : goal.returns-clause-whole
returns-clause-whole c = ends_whole c.args.bytes.now c.read_parts.result c.read_parts.ensures.found
