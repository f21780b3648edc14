use Rattle.std.proofs.Common.{◌∙◌, List, ℕ, true, Some, refl, sym, ap}
use Rattle.std.proofs.lemmas.List.{length-replicate}
use Rattle.nor_serprog.proofs.Handshaken.{port_failed, goes_on, offered}
use Rattle.nor_serprog.proofs.handshake.query.Goals as goal

pub returns-in_err-ask-clause-concludes : goal.returns-in_err-ask-clause-concludes
returns-in_err-ask-clause-concludes g c firmware bytes ready same has_reply reply len keeps =
    let h = offered firmware c.args.commands.now c.args.opcode _ true c.offers.ensures same c.if-not-offers.false in
    let a = rw (keeps _) at ((c.in_err-ask.ensures.asked firmware ready has_reply).acked bytes
    (reply ∙ rw h) (length-replicate {A = ℕ} _ 0 ∙ sym len)) in
    port_failed c.from_residual.result c.from_residual.ensures.1 a

pub returns-clause-concludes : goal.returns-clause-concludes
returns-clause-concludes g c firmware bytes ready same has_reply reply len keeps =
    let h = offered firmware c.args.commands.now c.args.opcode _ true c.offers.ensures same c.if-not-offers.false in
    let a = rw (keeps _) at ((c.in_ok-ask.ensures.asked firmware ready has_reply).acked bytes
    (reply ∙ rw h) (length-replicate {A = ℕ} _ 0 ∙ sym len)) in
    goes_on a refl (rw h (ap (λ (r : List ℕ). Some r) a.value))
