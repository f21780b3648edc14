use Rattle.serprog_board.proofs.Looking.{exchange_looks, mapped}
use Rattle.serprog_board.proofs.waking.exchange.Goals as goal

pub returns-clause-looks : goal.returns-clause-looks
returns-clause-looks g c awaits was look =
    let e = c.exchange.ensures in
    mapped c.map_err.ensures.variant
    (exchange_looks g.P.Port.state c.args.command _ _ c.exchange.result c.args.link.now c.exchange.new.self awaits was
    e.answered e.nature e.ok e.exchanged e.interrupted look)
