use Rattle.std.proofs.Common.{◌∙◌, List, ℕ, Option, refl, ap}
use Rattle.std.specs.Prelude.{replicate, unwrap_or}
use Rattle.nor_serprog.specs.Firmware.{has_command}
use Rattle.nor_serprog.proofs.Handshaken.{port_failed, goes_on, or_default}
use Rattle.nor_serprog.proofs.handshake.query_name.Goals as goal

pub returns-in_err-name-clause-concludes : goal.returns-in_err-name-clause-concludes
returns-in_err-name-clause-concludes g c firmware ready same =
    port_failed c.from_residual.result c.from_residual.ensures.1
    (c.in_err-name.ensures.concludes firmware firmware.name ready same tt refl firmware.name_len (λ s. refl))

pub returns-clause-concludes : goal.returns-clause-concludes
returns-clause-concludes g c firmware ready same =
    let done = c.in_ok-name.ensures.concludes firmware firmware.name ready same tt refl firmware.name_len (λ s. refl) in
    goes_on done refl
    (c.unwrap_or.ensures ∙ ap (λ (o : Option (List ℕ)). unwrap_or o (replicate 16 0)) done.value
    ∙ or_default (has_command firmware 0x03) firmware.name (replicate 16 0))
