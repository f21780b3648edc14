use Rattle.std.proofs.Common.{arith}
use Rattle.std.proofs.lemmas.Grind.{common_steps}
use Rattle.nor_scan.specs.Identity.{most_identity}
use Rattle.nor_session.proofs.ReadyChip.{opening_of}
use Rattle.nor_session.proofs.Reopened.{device_errors, kind_of}
use Rattle.nor_session.proofs.prepare_restore.identify_saved.Goals as goal

pub returns-in_err-identity-clause-errors : goal.returns-in_err-identity-clause-errors
returns-in_err-identity-clause-errors g c = λ choice.
    let returned = c.in_err-identity.ensures.errors choice in grind (arith, common_steps, returned)

pub returns-in_err-judge_device-clause-errors : goal.returns-in_err-judge_device-clause-errors
returns-in_err-judge_device-clause-errors g c = λ choice.
    let old = g.B.Bus.state c.args.bus.now in let new = g.B.Bus.state c.identify_type.new.bus in
    let opens = c.in_ok-identity.ensures.identifies in
    let returned = device_errors choice c.args.journal.now most_identity old new
    c.in_err-judge_device.field-0.0 c.in_err-judge_device.ensures.faults
    (λ honest. (opens.rested honest).unchanged.same)
    (λ modelled.
    let is = opening_of modelled opens in
    c.in_err-judge_device.ensures.errors choice old.further old.chip (g.met.B.Bus.reaches c.args.bus.now modelled.honest).kept2 is
    (kind_of is.config c.in_ok-identity.ensures.kind)) in
    grind (arith, common_steps, returned)

pub returns-clause-fits : goal.returns-clause-fits
returns-clause-fits g c =
    λ further chip small is. c.in_ok-judge_device.ensures.fits further chip small is (kind_of is.config c.in_ok-identity.ensures.kind)
