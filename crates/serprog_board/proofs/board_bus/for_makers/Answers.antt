use Rattle.std.proofs.Common.{◌∙◌}
use Rattle.serprog_board.proofs.BoardFits.{makers_fit}
use Rattle.serprog_board.proofs.board_bus.for_makers.Goals as goal

pub returns-clause-honest : goal.returns-clause-honest
returns-clause-honest g c fits = rw (
  c.new.ensures.bus,
  c.new-other.ensures.bus,
  c.new-kept.ensures.bus,
  c.new-known.ensures.bus,
)
    (makers_fit _ _ _ _ _ _ (c.new-known.ensures.ids ∙ c.from.ensures.0) (c.new-kept.ensures.rows ∙ c.from-2.ensures.0)
    (c.new-other.ensures.rows ∙ c.from-3.ensures.0) fits)
