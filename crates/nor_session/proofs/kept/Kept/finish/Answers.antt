use Rattle.std.proofs.Common.{arith}
use Rattle.std.proofs.lemmas.Grind.{common_steps}
use Rattle.nor_model.proofs.Nature.{nature_then}
use Rattle.std.proofs.lemmas.Result.{IfOk-weaker, err_from_is_err_and}
use Rattle.nor_session.proofs.ReadBack.{read_back_later, apply_failed}
use Rattle.nor_session.proofs.Changed.{checked, fits_work}
use Rattle.nor_session.proofs.kept.Kept.finish.Goals as goal

pub check-requires-clause-fits : goal.check-requires-clause-fits
check-requires-clause-fits g c =
    fits_work c.args.self.changes.now (g.S.Source.wanted c.args.self.source.now) _ _ _ c.requires.consistent.raised c.in_ok-work.ensures.does

pub returns-clause-does : goal.returns-clause-does
returns-clause-does g c =
    IfOk-weaker c.check.result _ _
    (λ work checking. checked c.args.self.changes.now (g.S.Source.wanted c.args.self.source.now) c.args.verify _ _ _ _ work c.requires.consistent.raised c.apply.ensures.leaves c.in_ok-work.ensures.does checking)
    c.check.ensures.does

pub returns-clause-leaves : goal.returns-clause-leaves
returns-clause-leaves g c = record {
  spends = record {
    nature = nature_then _ _ _ c.check.ensures.leaves.nature c.apply.ensures.leaves.spends.nature;
    falls = grind (arith, common_steps);
  };
  sends = grind (arith, common_steps);
  reached = grind (arith, common_steps);
}

pub returns-clause-read_back : goal.returns-clause-read_back
returns-clause-read_back g c =
    let consistent = c.requires.consistent in
    read_back_later c.args.self.changes.now (g.S.Source.wanted c.args.self.source.now) c.args.verify _ _ _ c.check.result
    c.apply.ensures.leaves.spends.nature.history
    (c.check.ensures.read_back (λ s hit. let inside = consistent.inside s hit in omega arith))

pub returns-in_err-work-clause-read_back : goal.returns-in_err-work-clause-read_back
returns-in_err-work-clause-read_back g c =
    let p = err_from_is_err_and c.from_residual.result c.from_residual.ensures.1 in
    rw (p.1, p.2) (apply_failed c.args.self.changes.now (g.S.Source.wanted c.args.self.source.now) c.args.verify _ _
    c.in_err-work.field-0.0)
