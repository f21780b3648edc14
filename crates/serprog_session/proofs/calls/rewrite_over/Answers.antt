use Rattle.nor_serprog.specs.Bus.{history_of}
use Rattle.serprog_session.proofs.Over.{modelled, refuses, rewrites, serprog}
use Rattle.serprog_session.proofs.calls.rewrite_over.Goals as goal

pub returns-clause-restores_original : goal.returns-clause-restores_original
returns-clause-restores_original g c = λ reaches.
    let over = serprog _ _ _ _ (history_of c.args.bus.now) (history_of c.rewrite.new.bus)
    c.rewrite.ensures.always.spends.nature.further in
    rewrites _ _ _ _ _ _ _ _ over (c.rewrite.ensures.restores_original (modelled _ _ _ _ _ _ over reaches))
    (c.rewrite.ensures.honest reaches.honest)
    (c.rewrite.ensures.modelled (modelled _ _ _ _ _ _ over reaches))

pub returns-clause-refuses : goal.returns-clause-refuses
returns-clause-refuses g c = refuses _ _ _ _ _ c.rewrite.ensures.always
