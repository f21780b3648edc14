use Rattle.std.proofs.Common.{◌≡◌, take}
use Rattle.std.specs.List.{count_by}
use Rattle.board_files.specs.Journals.{is_blank}
use Rattle.board_files.proofs.journals.count_blank.Given as goal

abbrev pub invariant-loop-i : goal.invariant-loop-i
invariant-loop-i l = l.blank ≡ count_by is_blank (take l.i l.fn.journal.saved)
