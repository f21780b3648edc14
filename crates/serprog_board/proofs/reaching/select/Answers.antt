use Rattle.std.proofs.Common.{refl}
use Rattle.serprog_board.proofs.Looking.{concluded_looks, mapped}
use Rattle.serprog_board.proofs.reaching.select.Goals as goal

pub returns-in-Some-clause-looks : goal.returns-in-Some-clause-looks
returns-in-Some-clause-looks g c hertz awaits was is =
    mapped c.map_err.ensures.variant
    (concluded_looks g.P.Port.state 3 _ _ c.select_chip.result c.args.link.now c.select_chip.new.link
    (g.P.Port.state c.args.link.now.port) refl refl c.select_chip.ensures.ok
    (c.select_chip.ensures.selects _ (record { in_step = was; awaits = awaits; same = refl }) is.selects))
