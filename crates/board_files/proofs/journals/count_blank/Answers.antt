use Rattle.std.proofs.Common.{◌∙◌, arith, sym}
use Rattle.board_files.proofs.Described.{no_more, one_more}
use Rattle.board_files.proofs.journals.count_blank.Goals as goal
use Rattle.board_files.proofs.journals.count_blank.Goals.{else-is_blank, then-is_blank}

pub loop-i-preserved : goal.loop-i-preserved
loop-i-preserved c = elim c.if-is_blank.branch [
  | then-is_blank w ↦
      rw w.blank-is (one_more c.args.journal.now.saved c.loop-i.i c.loop-i.blank _ (omega arith) c.sector.ensures.value c.loop-i.invariant (sym c.is_blank.ensures ∙ w.if-is_blank.true))
  | else-is_blank w ↦
      rw w.blank-is (no_more c.args.journal.now.saved c.loop-i.i c.loop-i.blank _ (omega arith) c.sector.ensures.value c.loop-i.invariant (sym c.is_blank.ensures ∙ w.if-is_blank.false))
]
