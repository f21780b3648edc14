use Rattle.std.proofs.Common.{arith}
use Rattle.nor_journal.proofs.Lengths.{long_text}
use Rattle.nor_journal.proofs.journal.journal_len.Goals as goal

pub returns : goal.returns
returns c = λ content unique is second count. grind (arith, long_text content is)
