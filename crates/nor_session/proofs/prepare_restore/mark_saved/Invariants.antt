use Rattle.nor_session.proofs.MarkedSaved.{HasMarkedFirst}
use Rattle.nor_session.proofs.prepare_restore.mark_saved.Given as goal

abbrev pub invariant-loop-i : goal.invariant-loop-i
invariant-loop-i l = HasMarkedFirst l.journal l.i l.scanned
