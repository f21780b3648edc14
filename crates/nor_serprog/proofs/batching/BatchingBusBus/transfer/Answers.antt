use Rattle.std.proofs.Common.{rules, length}
use Rattle.nor_serprog.proofs.BatchLaw.{law_ok, law_err}
use Rattle.nor_serprog.proofs.Framed.{framed_ok, framed_err}
use Rattle.nor_serprog.proofs.Modifying.{passes_ok, passes_err}
use Rattle.nor_serprog.proofs.batching.BatchingBusBus.transfer.Goals as goal

pub returns-in-Ok-clause-frames : goal.returns-in-Ok-clause-frames
returns-in-Ok-clause-frames g c start f =
    framed_ok start (g.P.Port.state c.args.self.now.batch.link.port).asked
    (g.P.Port.state c.transact.new.self.link.port).asked c.args.self.now.batch.waits c.transact.new.self.waits
    c.args.self.now.history.exchanges c.replied-self.result.exchanges c.args.out.now c.transact.new.reply
    (length c.args.reply.now) c.transact.auto.reply c.replied-self.ensures.exchanges c.in-Ok.ensures.only_enable
    c.in-Ok.ensures.led c.in-Ok.ensures.sent f

pub returns-then-was_in_step-clause-frames : goal.returns-then-was_in_step-clause-frames
returns-then-was_in_step-clause-frames g c start f =
    framed_err start c.args.self.now.batch c.transact.new.self c.args.self.now.history.exchanges
    c.stopped-self.result.exchanges c.args.out.now (length c.args.reply.now) c.stopped-self.ensures.exchanges
    c.in-Err.ensures.err f

pub returns-else-was_in_step-clause-frames : goal.returns-else-was_in_step-clause-frames
returns-else-was_in_step-clause-frames g c start f =
    framed_err start c.args.self.now.batch c.transact.new.self c.args.self.now.history.exchanges
    c.stopped-self.result.exchanges c.args.out.now (length c.args.reply.now) c.stopped-self.ensures.exchanges
    c.in-Err.ensures.err f

pub returns-in-Ok-clause-law : goal.returns-in-Ok-clause-law
returns-in-Ok-clause-law g c =
    law_ok c.args.out.now c.args.reply.now c.transact.new.reply c.args.self.now.batch.waits c.transact.new.self.waits
    c.args.self.now.further (g.P.Port.state c.args.self.now.batch.link.port)
    (g.P.Port.state c.transact.new.self.link.port) c.args.self.now.history.exchanges c.replied-self.result.exchanges
    c.transact.ensures.nature (λ honest. c.in-Ok.ensures.carried c.args.self.now.settled honest)
    (record {
      history = search rules;
      sent = search rules;
      passed = passes_ok c.args.self.now.batch.waits c.transact.new.self.waits c.args.out.now (length c.args.reply.now)
          (g.P.Port.state c.args.self.now.batch.link.port).asked (g.P.Port.state c.transact.new.self.link.port).asked
          c.in-Ok.ensures.only_enable c.in-Ok.ensures.led c.in-Ok.ensures.sent;
      allowances = search rules;
      returned = search rules;
      stopped = search rules;
    })

pub returns-then-was_in_step-clause-law : goal.returns-then-was_in_step-clause-law
returns-then-was_in_step-clause-law g c =
    law_err c.args.out.now c.args.reply.now c.transact.new.reply c.args.self.now.batch.waits c.transact.new.self.waits
    c.args.self.now.further (g.P.Port.state c.args.self.now.batch.link.port)
    (g.P.Port.state c.transact.new.self.link.port) c.args.self.now.history.exchanges c.stopped-self.result.exchanges _
    c.transact.ensures.nature (λ honest. c.in-Err.ensures.cut c.args.self.now.settled honest)
    (record {
      history = search rules;
      sent = search rules;
      passed = passes_err c.args.self.now.batch c.transact.new.self c.args.out.now (length c.args.reply.now)
          c.in-Err.ensures.err;
      allowances = search rules;
      returned = search rules;
      stopped = search rules;
    })

pub returns-else-was_in_step-clause-law : goal.returns-else-was_in_step-clause-law
returns-else-was_in_step-clause-law g c =
    law_err c.args.out.now c.args.reply.now c.transact.new.reply c.args.self.now.batch.waits c.transact.new.self.waits
    c.args.self.now.further (g.P.Port.state c.args.self.now.batch.link.port)
    (g.P.Port.state c.transact.new.self.link.port) c.args.self.now.history.exchanges c.stopped-self.result.exchanges _
    c.transact.ensures.nature (λ honest. c.in-Err.ensures.cut c.args.self.now.settled honest)
    (record {
      history = search rules;
      sent = search rules;
      passed = passes_err c.args.self.now.batch c.transact.new.self c.args.out.now (length c.args.reply.now)
          c.in-Err.ensures.err;
      allowances = search rules;
      returned = search rules;
      stopped = search rules;
    })
