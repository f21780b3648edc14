use Rattle.std.proofs.Common.{arith}
use Rattle.std.proofs.lemmas.Result.{on_ok_weaker, IfErr-weaker}
use Rattle.nor_journal.proofs.Beginnings.{IsContent-with_sector, front-with_sector, after_refused}
use Rattle.nor_journal.proofs.Saves.{may_follow, HasKept-more}
use Rattle.nor_journal.proofs.writer.Writer.add.Goals as goal

pub returns-clause-written : goal.returns-clause-written
returns-clause-written g c = λ content written follows. on_ok_weaker c.piece.result (λ put. record {
  is = IsContent-with_sector content c.args.number c.args.bytes.now written.is follows (omega arith);
  put = rw (front-with_sector content c.args.number c.args.bytes.now, ← c.record_bytes.ensures) put;
}) (c.piece.ensures.put _ written.put)

pub returns-clause-kept : goal.returns-clause-kept
returns-clause-kept g c = λ head chip saved more n kept above place sector one.
    let follows = may_follow _ _ head chip saved n c.args.number kept above place in
    on_ok_weaker c.piece.result (HasKept-more _ _ _ head chip saved more n c.args.number c.args.bytes.now kept follows sector one) (returns-clause-written g c kept.content kept.written follows)

pub returns-clause-cut : goal.returns-clause-cut
returns-clause-cut g c = λ content written.
    rw (front-with_sector content c.args.number c.args.bytes.now, ← c.record_bytes.ensures) (IfErr-weaker
    c.piece.result _ _ (λ fault. after_refused _ _ _ _ fault.kept written.put.held) c.piece.ensures.refused)
