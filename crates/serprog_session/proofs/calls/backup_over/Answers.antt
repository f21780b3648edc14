use Rattle.nor_serprog.specs.Bus.{history_of}
use Rattle.serprog_session.proofs.Over.{modelled, saves, serprog}
use Rattle.serprog_session.proofs.calls.backup_over.Goals as goal

pub returns-clause-results : goal.returns-clause-results
returns-clause-results g c = λ reaches.
    let over = serprog _ _ _ _ (history_of c.args.bus.now) (history_of c.backup.new.bus)
    c.backup.ensures.always.only_reads.nature.further in
    saves _ _ _ _ _ _ _ _ _ over (c.backup.ensures.honest reaches.honest)
    (c.backup.ensures.modelled (modelled _ _ _ _ _ _ over reaches))
