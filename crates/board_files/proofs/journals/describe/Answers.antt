use Rattle.std.proofs.Common.{inr, sym}
use Rattle.board_files.proofs.journals.describe.Goals as goal

pub returns-in-Ok-clause-ok : goal.returns-in-Ok-clause-ok
returns-in-Ok-clause-ok g c = (
  c.in-Ok.journal,
  record {
    sound = c.in-Ok.ensures.ok.0;
    read = rw (sym c.in-Ok.ensures.ok.1, c.deref.ensures.value) c.in_ok-bytes.ensures.ok;
  },
  c.description_of.ensures,
)

pub returns-clause-err : goal.returns-clause-err
returns-clause-err g c = inr (
  c.in_ok-bytes.bytes.items,
  c.in_ok-bytes.ensures.ok,
  rw c.deref.ensures.value at c.in-Err.ensures.err,
)
