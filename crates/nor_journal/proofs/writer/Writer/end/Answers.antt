use Rattle.std.proofs.lemmas.Result.{on_ok_weaker}
use Rattle.nor_journal.specs.Text.{end_mark}
use Rattle.nor_journal.proofs.Beginnings.{err_any, begins_mark, begins_digest, took_end, seals}
use Rattle.nor_journal.proofs.writer.Writer.end.Goals as goal

pub returns-in_err-put-clause-cut : goal.returns-in_err-put-clause-cut
unfolding end_mark
returns-in_err-put-clause-cut g c = λ content written.
    err_any _ (begins_mark _ _ content _ written.put.held c.in_err-put.ensures)

pub returns-in_err-put-2-clause-cut : goal.returns-in_err-put-2-clause-cut
unfolding end_mark
returns-in_err-put-2-clause-cut g c = λ content written.
    err_any _ (begins_digest _ _ _ content _ written.put.held c.in_ok-put.ensures
    (c.finalize.ensures _ (c.update.ensures _ written.put.hashed)) _ c.in_err-put-2.ensures)

pub returns-clause-written : goal.returns-clause-written
unfolding end_mark
returns-clause-written g c = λ content written. (seals _ _ c.seal.result content (took_end _ _ _ content _
    written.put.held c.in_ok-put.ensures (c.finalize.ensures _ (c.update.ensures _ written.put.hashed))
    c.in_ok-put-2.ensures) c.seal.ensures).0

pub returns-clause-kept : goal.returns-clause-kept
returns-clause-kept g c = λ head chip saved n kept. on_ok_weaker c.seal.result
    (λ is faithful. record { content = kept.content; same = kept.same; saves = kept.saves; is = is faithful })
    (returns-clause-written g c kept.content kept.written)

pub returns-clause-cut : goal.returns-clause-cut
unfolding end_mark
returns-clause-cut g c = λ content written. (seals _ _ c.seal.result content (took_end _ _ _ content _
    written.put.held c.in_ok-put.ensures (c.finalize.ensures _ (c.update.ensures _ written.put.hashed))
    c.in_ok-put-2.ensures) c.seal.ensures).1
