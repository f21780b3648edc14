use Rattle.std.proofs.Common.{arith, []}
use Rattle.std.proofs.lemmas.Result.{on_ok_weaker, IfErr-weaker}
use Rattle.nor_journal.proofs.Beginnings.{front-empty_content, after_refused}
use Rattle.nor_journal.proofs.writer.Writer.header.Goals as goal

pub returns-clause-content : goal.returns-clause-content
returns-clause-content g c =
    record { id = omega arith; unique = omega arith; status = omega arith; size = c.requires.size; saved = tt }

pub returns-clause-written : goal.returns-clause-written
returns-clause-written g c = λ nothing. on_ok_weaker c.piece.result (λ put. record {
  is = returns-clause-content g c;
  put = rw (front-empty_content, ← c.head_bytes.ensures) put;
}) (c.piece.ensures.put [] nothing)

pub returns-clause-cut : goal.returns-clause-cut
returns-clause-cut g c = λ nothing. rw (front-empty_content, ← c.head_bytes.ensures) (IfErr-weaker c.piece.result _ _
    (λ fault. after_refused _ _ [] _ fault.kept nothing.held) c.piece.ensures.refused)
