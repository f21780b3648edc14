use Rattle.nor_serprog.specs.Bus.{history_of}
use Rattle.serprog_session.proofs.Over.{keeps, modelled, results, serprog}
use Rattle.serprog_session.proofs.calls.session_over.Goals as goal

pub returns-clause-keeps : goal.returns-clause-keeps
returns-clause-keeps g c =
    keeps _ _ _ _ _ _ _ (serprog _ _ _ _ (history_of c.args.bus.now) (history_of c.session.new.bus)
    c.session.ensures.always.spends.nature.further) c.session.ensures.keeps

pub returns-clause-results : goal.returns-clause-results
returns-clause-results g c = λ reaches.
    let over = serprog _ _ _ _ (history_of c.args.bus.now) (history_of c.session.new.bus)
    c.session.ensures.always.spends.nature.further in
    results _ _ _ _ _ _ _ _ _ _ _ over c.session.ensures.always
    (c.session.ensures.modelled (modelled _ _ _ _ _ _ over reaches))
