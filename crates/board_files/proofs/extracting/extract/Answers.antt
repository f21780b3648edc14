use Rattle.std.proofs.Common.{sym}
use Rattle.board_files.proofs.extracting.extract.Goals as goal

pub returns-clause-ok : goal.returns-clause-ok
returns-clause-ok g c = record {
  journal = c.in_ok-journal.journal;
  sealed = record {
    sound = c.in_ok-journal.ensures.ok.0;
    read = rw (sym c.in_ok-journal.ensures.ok.1, c.deref.ensures.value) c.in_ok-bytes.ensures.ok;
  };
  bytes = c.in_ok-content.content.items;
  is = c.in_ok-content.ensures.ok;
  written = λ is. rw (sym c.deref-2.ensures.value) (c.in_ok-write_file.ensures.ok is);
}
