use Rattle.std.proofs.Common.{◌≡◌, ◌∙◌, ◌-◌, ◌∷◌, ℕ, List, arith, subst}
use Rattle.std.proofs.lemmas.Grind.{common_steps}
use Rattle.nor_model.specs.Bus.{IsHonestFor, Carries}
use Rattle.nor_model.specs.History.{replied}
use Rattle.nor_buses.specs.ReadsAs.{part}
use Rattle.nor_buses.proofs.ReadParts.{nature_then, record_then, repeats_read, part_fits, part_stays, part_same}
use Rattle.nor_buses.proofs.ReadsKeep.{keeps_then, stops_then, on_err}
use Rattle.nor_buses.proofs.again.is_repeated_or_expected.Goals as goal

pub returns-then-not-branch-clause-same : goal.returns-then-not-branch-clause-same
returns-then-not-branch-clause-same g c honest has =
    let was = c.loop-done.invariant in
    let n = c.loop-done.done in
    let m = c.run_from-run.result.end in
    let fits = part_fits c.args.address n m c.data_read-out.result c.args.reply.now (g.B.Bus.state c.args.bus.now)
    (g.B.Bus.state c.loop-done.bus) c.data_read-out.ensures (omega (arith, c.run_from-run.ensures.after))
    c.run_from-run.ensures.within was.nature honest in
    absurd (part_same c.args.address n m c.data_read-out.result c.args.reply.now (g.B.Bus.state c.loop-done.bus)
    (g.B.Bus.state c.is_repeated.new.bus) c.data_read-out.ensures c.run_from-run.ensures.after
    c.run_from-run.ensures.within c.requires.fits (was.has honest has)
    (c.in_ok-is_repeated.ensures.differs fits c.if-not-branch.true))

pub loop-done-preserved-else-not-branch : goal.loop-done-preserved-else-not-branch
loop-done-preserved-else-not-branch g c =
    let was = c.loop-done.invariant in
    let n = c.loop-done.done in
    let m = c.run_from-run.result.end in
    let fits = λ (honest : IsHonestFor _ _ _).
    part_fits c.args.address n m c.data_read-out.result c.args.reply.now (g.B.Bus.state c.args.bus.now)
    (g.B.Bus.state c.loop-done.bus) c.data_read-out.ensures (omega (arith, c.run_from-run.ensures.after))
    c.run_from-run.ensures.within was.nature honest in
    let H : List ℕ → Type 0 = λ out. (g.B.Bus.state c.is_repeated.new.bus).history
    ≡ replied out (part c.args.reply.now n (m - n)) ∷ (g.B.Bus.state c.loop-done.bus).history in
    let C : List ℕ → Type 0 = λ out. Carries out (part c.args.reply.now n (m - n)) (g.B.Bus.state c.loop-done.bus)
    (g.B.Bus.state c.is_repeated.new.bus) in
    record {
      within = c.run_from-run.ensures.within;
      nature = nature_then _ _ _ was.nature c.in_ok-is_repeated.ensures.nature;
      passed = c.in_ok-is_repeated.ensures.passed (grind (arith, common_steps, c.data_read-out.ensures))
          ∙ was.passed;
      keeps = record_then _ _ _ was.keeps
          (c.in_ok-is_repeated.ensures.record (grind (arith, common_steps, c.data_read-out.ensures)));
      repeats = repeats_read c.args.image.now c.args.address c.args.reply.now n m _ _ _ was.repeats
          (omega (arith, c.run_from-run.ensures.after)) c.run_from-run.ensures.within
          (subst H c.data_read-out.ensures (c.in_ok-is_repeated.ensures.repeated c.if-not-branch.false))
          (λ honest. subst C c.data_read-out.ensures
          (c.in_ok-is_repeated.ensures.carries (fits honest) c.if-not-branch.false))
          (c.run_from-run.ensures.differs c.if-not-run.true);
      leaves = λ honest. keeps_then (was.leaves honest)
          (c.in_ok-is_repeated.ensures.keeps (fits honest) (grind (arith, common_steps, c.data_read-out.ensures)));
      has = λ honest has. part_stays c.args.address n m c.data_read-out.result c.args.reply.now _ _ _
          c.data_read-out.ensures (was.has honest has)
          (c.in_ok-is_repeated.ensures.carries (fits honest) c.if-not-branch.false);
    }

pub returns-then-not-branch-clause-passed : goal.returns-then-not-branch-clause-passed
returns-then-not-branch-clause-passed g c =
    c.in_ok-is_repeated.ensures.passed (grind (arith, common_steps, c.data_read-out.ensures))
    ∙ c.loop-done.invariant.passed

pub returns-in_err-is_repeated-clause-passed : goal.returns-in_err-is_repeated-clause-passed
returns-in_err-is_repeated-clause-passed g c =
    c.in_err-is_repeated.ensures.passed (grind (arith, common_steps, c.data_read-out.ensures))
    ∙ c.loop-done.invariant.passed

pub returns-then-not-branch-clause-keeps : goal.returns-then-not-branch-clause-keeps
returns-then-not-branch-clause-keeps g c honest =
    let was = c.loop-done.invariant in
    let fits = part_fits c.args.address c.loop-done.done c.run_from-run.result.end c.data_read-out.result
    c.args.reply.now (g.B.Bus.state c.args.bus.now) (g.B.Bus.state c.loop-done.bus) c.data_read-out.ensures
    (omega (arith, c.run_from-run.ensures.after)) c.run_from-run.ensures.within was.nature honest in
    keeps_then (was.leaves honest)
    (c.in_ok-is_repeated.ensures.keeps fits (grind (arith, common_steps, c.data_read-out.ensures)))

pub returns-in_err-is_repeated-clause-stopped : goal.returns-in_err-is_repeated-clause-stopped
returns-in_err-is_repeated-clause-stopped g c honest =
    let was = c.loop-done.invariant in
    let fits = part_fits c.args.address c.loop-done.done c.run_from-run.result.end c.data_read-out.result
    c.args.reply.now (g.B.Bus.state c.args.bus.now) (g.B.Bus.state c.loop-done.bus) c.data_read-out.ensures
    (omega (arith, c.run_from-run.ensures.after)) c.run_from-run.ensures.within was.nature honest in
    on_err c.from_residual.result (stops_then was.nature.steady (was.leaves honest)
    (c.in_err-is_repeated.ensures.stopped fits (grind (arith, common_steps, c.data_read-out.ensures))))
