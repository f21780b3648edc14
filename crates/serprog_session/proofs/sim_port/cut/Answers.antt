use Rattle.std.proofs.Common.{refl, inl, arith}
use Rattle.serprog_session.proofs.Simulated as simulated
use Rattle.serprog_session.proofs.sim_port.cut.Goals as goal

pub returns : goal.returns
returns c = λ bus_type pending pending'.
    let allowed = c.allow.ensures.allows.left refl refl in
    let stopped = simulated.failed c.transfer.result _ _
    (c.transfer.ensures.law.carries (record { honest = refl; fits = inl refl }))
    (c.transfer.ensures.law.stops (record { honest = refl; fits = inl refl }))
    (λ carried. omega (arith, carried.left refl, allowed)) in
    simulated.cut c.args.out.now _ _ _ bus_type pending pending' c.allow.ensures.allows stopped.at_stop
