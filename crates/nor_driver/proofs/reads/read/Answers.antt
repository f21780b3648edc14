use Rattle.nor_driver.proofs.Readings.{read_fits, read_leaves, read_does, read_fails, read_keeps_polled_ready}
use Rattle.nor_driver.proofs.Sends.{sends_by, answered_by}
use Rattle.nor_driver.proofs.reads.read.Goals as goal

pub returns-clause-leaves : goal.returns-clause-leaves
returns-clause-leaves g c =
    let fits = read_fits c.args.out.now c.args.reply.now (g.B.Bus.state c.args.bus.now) c.requires.reading c.requires.short in
    read_leaves c.transfer.result _ c.transfer.new.reply _ _ c.requires.reading (sends_by c.transfer.ensures.nature c.transfer.ensures.records)
    (λ honest. c.transfer.ensures.stops (fits honest)) (λ honest. c.transfer.ensures.carries (fits honest))

pub returns-clause-does : goal.returns-clause-does
returns-clause-does g c =
    let fits = read_fits c.args.out.now c.args.reply.now (g.B.Bus.state c.args.bus.now) c.requires.reading c.requires.short in
    read_does c.transfer.result _ c.transfer.new.reply _ _ c.requires.reading
    (answered_by c.transfer.result _ c.transfer.new.reply _ _ c.transfer.ensures.records)
    (λ honest. c.transfer.ensures.carries (fits honest))

pub returns-clause-polled_ready : goal.returns-clause-polled_ready
returns-clause-polled_ready g c =
    read_keeps_polled_ready c.transfer.result _ c.transfer.new.reply _ _ c.requires.reading c.transfer.ensures.records

pub returns-clause-unread : goal.returns-clause-unread
returns-clause-unread g c honest =
    c.transfer.ensures.unread
    (read_fits c.args.out.now c.args.reply.now (g.B.Bus.state c.args.bus.now) c.requires.reading c.requires.short honest)

pub returns-clause-fails : goal.returns-clause-fails
returns-clause-fails g c =
    let fits = read_fits c.args.out.now c.args.reply.now (g.B.Bus.state c.args.bus.now) c.requires.reading c.requires.short in
    read_fails c.transfer.result _ c.transfer.new.reply _ _ c.transfer.ensures.records
    (λ honest. c.transfer.ensures.stops (fits honest))
