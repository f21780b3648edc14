use Rattle.std.proofs.Common.{arith}
use Rattle.std.proofs.lemmas.Result.{err_from_is_err_and}
use Rattle.nor_session.proofs.Changed.{touched_most}
use Rattle.nor_session.proofs.ReadBack.{check_failed, check_passed}
use Rattle.nor_session.proofs.kept.Done.check.Goals as goal

pub overflow_add-result : goal.overflow_add-result
overflow_add-result g c =
    let reads = c.in_ok-reads.ensures.does.reads in let touched = touched_most c.args.self.changes.now in
    omega arith

pub returns-in_err-reads-clause-read_back : goal.returns-in_err-reads-clause-read_back
returns-in_err-reads-clause-read_back g c = λ below.
    let p = err_from_is_err_and c.from_residual.result c.from_residual.ensures.1 in
    rw (p.1, p.2) (check_failed c.args.self.changes.now (g.S.Source.wanted c.args.self.source.now) c.args.verify _ _
    c.in_err-reads.field-0.0 (c.in_err-reads.ensures.replies below))

pub returns-clause-read_back : goal.returns-clause-read_back
returns-clause-read_back g c = λ below.
    check_passed c.args.self.changes.now (g.S.Source.wanted c.args.self.source.now) c.args.verify _ _
    c.in_ok-reads.reads c.args.self.work (c.in_ok-reads.ensures.replies below)
