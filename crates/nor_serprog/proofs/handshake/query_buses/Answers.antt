use Rattle.std.proofs.Common.{List, ℕ, [], ◌∷◌, refl, ap, get_or}
use Rattle.nor_serprog.specs.Firmware.{has_command}
use Rattle.nor_serprog.proofs.Handshaken.{port_failed, goes_on, lacks_query, replied}
use Rattle.nor_serprog.proofs.handshake.query_buses.Goals as goal

pub returns-in_err-reply-clause-concludes : goal.returns-in_err-reply-clause-concludes
returns-in_err-reply-clause-concludes g c firmware ready same =
    port_failed c.from_residual.result c.from_residual.ensures.1
    (c.in_err-reply.ensures.concludes firmware (firmware.buses ∷ []) ready same tt refl refl (λ s. refl))

pub returns-in-Some-clause-concludes : goal.returns-in-Some-clause-concludes
returns-in-Some-clause-concludes g c firmware ready same =
    let done = c.in_ok-reply.ensures.concludes firmware (firmware.buses ∷ []) ready same tt refl refl (λ s. refl) in
    let r = replied (has_command firmware 0x05) (firmware.buses ∷ []) _ _ c.in-Some.is done.value in
    goes_on done refl (rw r.has_query (ap (λ (l : List ℕ). get_or l 0 0) r.bytes_are))

pub returns-in-None-clause-concludes : goal.returns-in-None-clause-concludes
returns-in-None-clause-concludes g c firmware ready same =
    let done = c.in_ok-reply.ensures.concludes firmware (firmware.buses ∷ []) ready same tt refl refl (λ s. refl) in
    let h = lacks_query (has_command firmware 0x05) (firmware.buses ∷ []) _ c.in-None.is done.value in
    goes_on done refl (rw h)
