use Rattle.std.proofs.Common.{◌≡◌, ◌<◌, ◌∙◌, true, Option, arith}
use Rattle.std.proofs.lemmas.Result.{err_from_is_err_and}
use Rattle.nor_model.specs.Bus.{BusState}
use Rattle.nor_probe.specs.declared.table.ChipName.{ChipName}
use Rattle.nor_probe.specs.declared.probes.ProbeFault.{ProbeFault}
use Rattle.nor_probe.specs.declared.probes.ProbeFault.TheVariants as Probes
use Rattle.nor_probe.specs.Found.{ProbeErrors}
use Rattle.nor_scan.specs.Identity.{needed_to_identify}
use Rattle.nor_request.specs.declared.refusal.Refusal.TheVariants.{Stopped}
use Rattle.nor_request.specs.Refusal.{of_probe}
use Rattle.std.proofs.lemmas.Grind.{common_steps}
use Rattle.nor_driver.proofs.ReadsInTurn.{only_reads_within}
use Rattle.nor_scan.proofs.Replied.{identified_by}
use Rattle.nor_scan.proofs.identifying.identify.Goals as goal

pub returns-in_err-identity-clause-leaves : goal.returns-in_err-identity-clause-leaves
returns-in_err-identity-clause-leaves g c =
    only_reads_within 65542 (omega arith) c.probe_counted.ensures.always.only_reads c.read_on.ensures.leaves

pub returns-clause-leaves : goal.returns-clause-leaves
returns-clause-leaves g c =
    only_reads_within 65542 (omega arith) c.probe_counted.ensures.always.only_reads c.read_on.ensures.leaves

pub returns-clause-identifies : goal.returns-clause-identifies
returns-clause-identifies g c =
    let rest = c.in_ok-identity.ensures.reads in record {
      part = grind (arith, common_steps);
      replied = identified_by (grind (arith, common_steps)) rest;
      wanted = grind (arith, common_steps);
      least = grind (arith, common_steps);
      most = grind (arith, common_steps);
      polled_ready = grind (arith, common_steps);
      rested = grind (arith, common_steps);
      idle = grind (arith, common_steps);
      shown = grind (arith, common_steps);
      genuine = grind (arith, common_steps);
      status1 = grind (arith, common_steps);
      status2 = grind (arith, common_steps);
      unique = grind (arith, common_steps);
      count = grind (arith, common_steps);
      exact = grind (arith, common_steps);
    }

probe_stopped : (named : Option ChipName) (old new : BusState) (fault : ProbeFault) → ProbeErrors named old new fault
    → old.punctual ≡ true → of_probe fault ≡ Stopped → old.left < needed_to_identify old.further old.chip
probe_stopped named old new Probes.Stopped errors punctual is = let below = (errors.0 punctual).below in omega arith
probe_stopped named old new Probes.NoChip errors punctual is = absurd cc
probe_stopped named old new (Probes.UnknownChip fault) errors punctual is = absurd cc
probe_stopped named old new Probes.OtherName errors punctual is = absurd cc
probe_stopped named old new Probes.Timeout errors punctual is = absurd errors

pub returns-in_err-probed-clause-exact : goal.returns-in_err-probed-clause-exact
returns-in_err-probed-clause-exact g c = λ honest punctual.
    let p = err_from_is_err_and c.from_residual.result c.from_residual.ensures.1 in
    rw (p.1, p.2)
    (probe_stopped c.args.named (g.B.Bus.state c.args.bus.now) (g.B.Bus.state c.probe_counted.new.bus)
    c.in_err-probed.field-0.0 (c.in_err-probed.ensures.honest honest).errors punctual)

pub returns-in_err-identity-clause-exact : goal.returns-in_err-identity-clause-exact
returns-in_err-identity-clause-exact g c = λ honest punctual.
    let p = err_from_is_err_and c.from_residual-in_err-identity.result c.from_residual-in_err-identity.ensures.1 in
    let finds = c.in_ok-probed.ensures.honest honest in
    let nature = c.probe_counted.ensures.always.only_reads.nature in
    let ran = c.in_err-identity.ensures.stops.ran_out (nature.honest ∙ honest) (nature.punctual ∙ punctual) in
    rw (p.1, p.2) (λ is. grind (arith, common_steps, finds, ran))
