use Rattle.std.proofs.Common.{refl}
use Rattle.serprog_board.proofs.Looking.{exchange_looks}
use Rattle.serprog_board.proofs.transactions.operate.Goals as goal

pub returns-clause-looks : goal.returns-clause-looks
returns-clause-looks g c awaits was =
    let e = c.exchange.ensures in
    exchange_looks g.P.Port.state _ _ _ c.exchange.result c.args.link.now c.exchange.new.self awaits was e.answered
    e.nature e.ok e.exchanged e.interrupted (c.requires.reads, refl)
