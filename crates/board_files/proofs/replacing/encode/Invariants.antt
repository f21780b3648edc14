use Rattle.std.proofs.Common.{◌≡◌, ◌++◌, take}
use Rattle.nor_journal.specs.Text.{head, records_text}
use Rattle.board_files.specs.Images.{with_unique_and_status}
use Rattle.board_files.proofs.replacing.encode.Given as goal

abbrev pub invariant-loop-index : goal.invariant-loop-index
invariant-loop-index l =
    l.bytes.items ≡ head (with_unique_and_status l.fn.unique l.fn.status l.fn.journal) ++ records_text (take l.index l.fn.journal.saved)
