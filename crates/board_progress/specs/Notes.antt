use Rattle.nor_sums.specs.declared.sums.Sums.{Sums}
use Rattle.board_progress.specs.declared.notes.Notes.{Notes}

abbrev pub after_of : Notes → Sums
after_of notes = notes.after
