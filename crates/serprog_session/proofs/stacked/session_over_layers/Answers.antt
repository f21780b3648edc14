use Rattle.std.proofs.Common.{refl}
use Rattle.nor_buses.specs.Ahead.{ahead_state}
use Rattle.nor_serprog.specs.Batching.{waits_of}
use Rattle.serprog_session.specs.Stack.{port_below, batching_below}
use Rattle.serprog_session.proofs.Over.{keeps, modelled, results, still_reaches, unpunctual}
use Rattle.serprog_session.proofs.stacked.session_over_layers.Goals as goal

pub returns-clause-keeps : goal.returns-clause-keeps
returns-clause-keeps g c = λ fit.
    let over =
    unpunctual (g.P.Port.state (port_below c.args.bus.now)) (g.P.Port.state (port_below c.session.new.bus))
    (waits_of (batching_below c.args.bus.now)) (waits_of (batching_below c.session.new.bus)) (ahead_state c.args.bus.now)
    (ahead_state c.session.new.bus) fit.empty
    (λ honest. c.stack_is_well_behaved.ensures.honest honest fit.whole fit.blocks fit.known fit.bit6 fit.replies)
    refl c.session.ensures.always.spends.nature.further in
    keeps _ _ _ _ _ _ _ over c.session.ensures.keeps

pub returns-clause-results : goal.returns-clause-results
returns-clause-results g c = λ fit reaches.
    let over =
    unpunctual (g.P.Port.state (port_below c.args.bus.now)) (g.P.Port.state (port_below c.session.new.bus))
    (waits_of (batching_below c.args.bus.now)) (waits_of (batching_below c.session.new.bus)) (ahead_state c.args.bus.now)
    (ahead_state c.session.new.bus) fit.empty
    (λ honest. c.stack_is_well_behaved.ensures.honest honest fit.whole fit.blocks fit.known fit.bit6 fit.replies)
    refl c.session.ensures.always.spends.nature.further in
    results _ _ _ _ _ _ _ _ _ _ _ over c.session.ensures.always
    (c.session.ensures.modelled (modelled _ _ _ _ _ _ over (still_reaches _ _ reaches)))
