use Rattle.std.proofs.Common.{◌≡◌, rules, true, false, [], ◌∷◌}
use Rattle.nor_serprog.proofs.Batched.{in_step_if, sends_enable, settled_after, flushed, flush_cut}
use Rattle.nor_serprog.proofs.batch.Batch.flush.Goals as goal

pub returns-clause-settled : goal.returns-clause-settled
returns-clause-settled g c settled =
    let waited : c.args.self.now.waits ≡ true = search rules in
    let in_step = in_step_if c.args.self.now waited in
    settled_after c.args.self.now.buffer g.P.Port.state false (0x06 ∷ []) c.exchange_batch.new.reply c.args.self.now.link
    c.exchange_batch.new.self c.exchange_batch.result c.exchange_batch.ensures.nature
    (λ honest. c.exchange_batch.ensures.exchanged honest (settled.settled.idle honest in_step) (0x06 ∷ []) (sends_enable _))
    (λ honest.
    c.exchange_batch.ensures.interrupted honest (settled.settled.idle honest in_step) in_step (0x06 ∷ [])
    (sends_enable _)) c.exchange_batch.ensures.ok c.exchange_batch.ensures.err
    (λ honest. settled.buffer honest in_step)

pub returns-clause-carried : goal.returns-clause-carried
returns-clause-carried g c settled honest =
    let waited : c.args.self.now.waits ≡ true = search rules in
    let in_step = in_step_if c.args.self.now waited in
    flushed c.exchange_batch.result c.args.self.now.waits (g.P.Port.state c.args.self.now.link.port)
    (g.P.Port.state c.exchange_batch.new.self.port) c.exchange_batch.new.reply waited c.exchange_batch.auto.reply
    (c.exchange_batch.ensures.exchanged honest (settled.settled.idle honest in_step) (0x06 ∷ []) (sends_enable _))

pub returns-clause-cut : goal.returns-clause-cut
returns-clause-cut g c settled honest =
    let waited : c.args.self.now.waits ≡ true = search rules in
    let in_step = in_step_if c.args.self.now waited in
    flush_cut c.exchange_batch.result c.args.self.now.waits (g.P.Port.state c.args.self.now.link.port)
    (g.P.Port.state c.exchange_batch.new.self.port) waited
    (c.exchange_batch.ensures.interrupted honest (settled.settled.idle honest in_step) in_step (0x06 ∷ [])
    (sends_enable _))
