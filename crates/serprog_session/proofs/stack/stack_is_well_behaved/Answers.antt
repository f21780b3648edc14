use Rattle.serprog_session.proofs.stack.stack_is_well_behaved.Goals as goal

pub returns-clause-honest : goal.returns-clause-honest
returns-clause-honest g c honest whole short known bit6 replies =
    c.layers_are_well_behaved.ensures.honest (record {
      honest = honest;
      whole = whole;
      block = short;
      known = known;
      bit6 = bit6;
      replies = replies;
    })
