use Rattle.std.proofs.Common.{refl}
use Rattle.nor_buses.specs.Ahead.{ahead_state}
use Rattle.nor_serprog.specs.Batching.{waits_of}
use Rattle.serprog_session.specs.Stack.{port_below, batching_below}
use Rattle.serprog_session.proofs.Over.{modelled, saves, still_reaches, unpunctual}
use Rattle.serprog_session.proofs.stacked.backup_over_layers.Goals as goal

pub returns-clause-results : goal.returns-clause-results
returns-clause-results g c = λ fit reaches.
    let over =
    unpunctual (g.P.Port.state (port_below c.args.bus.now)) (g.P.Port.state (port_below c.backup.new.bus))
    (waits_of (batching_below c.args.bus.now)) (waits_of (batching_below c.backup.new.bus)) (ahead_state c.args.bus.now)
    (ahead_state c.backup.new.bus) fit.empty
    (λ honest. c.stack_is_well_behaved.ensures.honest honest fit.whole fit.blocks fit.known fit.bit6 fit.replies)
    refl c.backup.ensures.always.only_reads.nature.further in
    saves _ _ _ _ _ _ _ _ _ over (c.backup.ensures.honest (over.honest reaches.honest))
    (c.backup.ensures.modelled (modelled _ _ _ _ _ _ over (still_reaches _ _ reaches)))
