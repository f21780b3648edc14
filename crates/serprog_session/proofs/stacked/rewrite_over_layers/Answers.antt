use Rattle.std.proofs.Common.{refl}
use Rattle.nor_buses.specs.Ahead.{ahead_state}
use Rattle.nor_serprog.specs.Batching.{waits_of}
use Rattle.serprog_session.specs.Stack.{port_below, batching_below}
use Rattle.serprog_session.proofs.Over.{modelled, refuses, rewrites, still_reaches, unpunctual}
use Rattle.serprog_session.proofs.stacked.rewrite_over_layers.Goals as goal

pub returns-clause-restores_original : goal.returns-clause-restores_original
returns-clause-restores_original g c = λ fit reaches.
    let over =
    unpunctual (g.P.Port.state (port_below c.args.bus.now)) (g.P.Port.state (port_below c.rewrite.new.bus))
    (waits_of (batching_below c.args.bus.now)) (waits_of (batching_below c.rewrite.new.bus)) (ahead_state c.args.bus.now)
    (ahead_state c.rewrite.new.bus) fit.empty
    (λ honest. c.stack_is_well_behaved.ensures.honest honest fit.whole fit.blocks fit.known fit.bit6 fit.replies)
    refl c.rewrite.ensures.always.spends.nature.further in
    rewrites _ _ _ _ _ _ _ _ over (c.rewrite.ensures.restores_original (modelled _ _ _ _ _ _ over (still_reaches _ _ reaches)))
    (c.rewrite.ensures.honest (over.honest reaches.honest))
    (c.rewrite.ensures.modelled (modelled _ _ _ _ _ _ over (still_reaches _ _ reaches)))

pub returns-clause-refuses : goal.returns-clause-refuses
returns-clause-refuses g c = refuses _ _ _ _ _ c.rewrite.ensures.always
