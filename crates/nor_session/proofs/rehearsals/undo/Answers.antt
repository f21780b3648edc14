use Rattle.std.proofs.Common.{rules}
use Rattle.std.proofs.lemmas.Result.{IfOk-weaker, IfErr-weaker, on_err_weaker}
use Rattle.nor_session.proofs.RehearsedRestores.{undoes, undo_wears, undo_sends, undo_programs, undo_refuses, tried_less, unread}
use Rattle.nor_session.proofs.rehearsals.undo.Goals as goal

pub returns-in-Ok : goal.returns-in-Ok
returns-in-Ok g c =
    let kept = c.in-Ok.ensures.kept in let (is, same) = c.in-Ok.ensures.found in let ends = c.restore_in_turn.ensures in
    record {
      nature = search rules;
      wears = undo_wears is same kept _ _ ends.leaves;
      sends = undo_sends is same kept _ _ ends.leaves;
      programs = undo_programs is same kept _ _ ends.leaves;
      writes = search rules;
      undoes = IfOk-weaker c.restore_in_turn.result _ _ (undoes is same kept _) ends.shows;
      polled_ready = search rules;
      refuses = IfErr-weaker c.restore_in_turn.result _ _ (undo_refuses is same kept _ _) ends.refuses;
      tried = on_err_weaker c.restore_in_turn.result tried_less ends.tried;
    }

pub returns-in-Err : goal.returns-in-Err
returns-in-Err g c = search (rules, unread, c.in-Err.ensures.only)
