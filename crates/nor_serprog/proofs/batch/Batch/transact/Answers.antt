use Rattle.std.proofs.Common.{◌≡◌, ◌∙◌, ◌≤◌, ◌+◌, ◌++◌, rules, true, false, length}
use Rattle.nor_serprog.specs.Asked.{enable_frame}
use Rattle.nor_serprog.specs.Batch.{device_at}
use Rattle.nor_serprog.specs.Frame.{operation_frame, IsFrame, replies_in}
use Rattle.nor_serprog.specs.Link.{is_in_step}
use Rattle.nor_serprog.proofs.Exchanges.{on_err}
use Rattle.nor_serprog.proofs.Enabled.{nothing_cut}
use Rattle.nor_serprog.proofs.Batched.{in_step_if, sends_alone, sends_pair, settled_after, carried_later, cut_later, carried_paired, cut_paired}
use Rattle.nor_serprog.proofs.batch.Batch.transact.Goals as goal

pub returns-then-ne-clause-cut : goal.returns-then-ne-clause-cut
returns-then-ne-clause-cut g c settled honest = nothing_cut c.args.out.now (device_at c.args.self.now)

pub returns-in_err-frame-clause-cut : goal.returns-in_err-frame-clause-cut
returns-in_err-frame-clause-cut g c settled honest =
    on_err _ _ (nothing_cut c.args.out.now (device_at c.args.self.now))

pub returns-then-len-from-clause-settled : goal.returns-then-len-from-clause-settled
returns-then-len-from-clause-settled g c settled =
    let waited : c.args.self.now.waits ≡ true = search rules in
    let in_step = in_step_if c.args.self.now waited in
    let exact : c.in_ok-frame.frame.items ≡ operation_frame c.args.out.now (length c.args.reply.now) = search rules in
    let whole : IsFrame c.in_ok-frame.frame.items = search rules in
    let reads : replies_in c.in_ok-frame.frame.items ≡ length c.args.reply.now = search rules in
    let fits : 8 + length c.in_ok-frame.frame.items ≤ c.args.self.now.buffer = search rules in
    let both : c.deref.result.now ≡ enable_frame ++ c.in_ok-frame.frame.items = search rules in
    settled_after c.args.self.now.buffer g.P.Port.state true c.args.out.now c.exchange_batch.new.reply
    c.args.self.now.link c.exchange_batch.new.self c.exchange_batch.result c.exchange_batch.ensures.nature
    (λ honest.
    c.exchange_batch.ensures.exchanged honest (settled.settled.idle honest in_step) c.args.out.now
    (sends_pair c.args.out.now (length c.args.reply.now) c.in_ok-frame.frame.items c.deref.result.now
    c.args.self.now.buffer _ exact whole reads both fits (settled.buffer honest in_step)))
    (λ honest.
    c.exchange_batch.ensures.interrupted honest (settled.settled.idle honest in_step) in_step c.args.out.now
    (sends_pair c.args.out.now (length c.args.reply.now) c.in_ok-frame.frame.items c.deref.result.now
    c.args.self.now.buffer _ exact whole reads both fits (settled.buffer honest in_step)))
    c.exchange_batch.ensures.ok c.exchange_batch.ensures.err (λ honest. settled.buffer honest in_step)

pub returns-then-len-from-clause-carried : goal.returns-then-len-from-clause-carried
returns-then-len-from-clause-carried g c settled honest =
    let waited : c.args.self.now.waits ≡ true = search rules in
    let in_step = in_step_if c.args.self.now waited in
    let exact : c.in_ok-frame.frame.items ≡ operation_frame c.args.out.now (length c.args.reply.now) = search rules in
    let whole : IsFrame c.in_ok-frame.frame.items = search rules in
    let reads : replies_in c.in_ok-frame.frame.items ≡ length c.args.reply.now = search rules in
    let fits : 8 + length c.in_ok-frame.frame.items ≤ c.args.self.now.buffer = search rules in
    let both : c.deref.result.now ≡ enable_frame ++ c.in_ok-frame.frame.items = search rules in
    carried_paired c.exchange_batch.result c.args.self.now.waits c.args.out.now
    (g.P.Port.state c.args.self.now.link.port) (g.P.Port.state c.exchange_batch.new.self.port)
    c.exchange_batch.new.reply waited
    (c.exchange_batch.ensures.exchanged honest (settled.settled.idle honest in_step) c.args.out.now
    (sends_pair c.args.out.now (length c.args.reply.now) c.in_ok-frame.frame.items c.deref.result.now
    c.args.self.now.buffer _ exact whole reads both fits (settled.buffer honest in_step)))

pub returns-then-len-from-clause-cut : goal.returns-then-len-from-clause-cut
returns-then-len-from-clause-cut g c settled honest =
    let waited : c.args.self.now.waits ≡ true = search rules in
    let in_step = in_step_if c.args.self.now waited in
    let exact : c.in_ok-frame.frame.items ≡ operation_frame c.args.out.now (length c.args.reply.now) = search rules in
    let whole : IsFrame c.in_ok-frame.frame.items = search rules in
    let reads : replies_in c.in_ok-frame.frame.items ≡ length c.args.reply.now = search rules in
    let fits : 8 + length c.in_ok-frame.frame.items ≤ c.args.self.now.buffer = search rules in
    let both : c.deref.result.now ≡ enable_frame ++ c.in_ok-frame.frame.items = search rules in
    cut_paired c.exchange_batch.result c.args.self.now.waits c.args.out.now
    (g.P.Port.state c.args.self.now.link.port) (g.P.Port.state c.exchange_batch.new.self.port) waited
    (c.exchange_batch.ensures.interrupted honest (settled.settled.idle honest in_step) in_step c.args.out.now
    (sends_pair c.args.out.now (length c.args.reply.now) c.in_ok-frame.frame.items c.deref.result.now
    c.args.self.now.buffer _ exact whole reads both fits (settled.buffer honest in_step)))

pub returns-clause-settled : goal.returns-clause-settled
returns-clause-settled g c settled =
    let in_step : is_in_step c.args.self.now.link ≡ true = search rules in
    let mid_in_step : is_in_step c.flush.new.self.link ≡ true = c.in_ok-flush.ensures.ok in_step in
    let exact : c.in_ok-frame.frame.items ≡ operation_frame c.args.out.now (length c.args.reply.now) = search rules in
    let whole : IsFrame c.in_ok-frame.frame.items = search rules in
    let reads : replies_in c.in_ok-frame.frame.items ≡ length c.args.reply.now = search rules in
    let alone : c.deref-2.result.now ≡ c.in_ok-frame.frame.items = search rules in
    let mid = c.flush.ensures.settled settled in
    settled_after c.flush.new.self.buffer g.P.Port.state false c.args.out.now c.exchange_batch-2.new.reply
    c.flush.new.self.link c.exchange_batch-2.new.self c.exchange_batch-2.result c.exchange_batch-2.ensures.nature
    (λ honest.
    c.exchange_batch-2.ensures.exchanged honest (mid.settled.idle honest mid_in_step) c.args.out.now
    (sends_alone c.args.out.now (length c.args.reply.now) c.in_ok-frame.frame.items c.deref-2.result.now _ alone exact
    whole reads))
    (λ honest.
    c.exchange_batch-2.ensures.interrupted honest (mid.settled.idle honest mid_in_step) mid_in_step c.args.out.now
    (sends_alone c.args.out.now (length c.args.reply.now) c.in_ok-frame.frame.items c.deref-2.result.now _ alone exact
    whole reads))
    c.exchange_batch-2.ensures.ok c.exchange_batch-2.ensures.err (λ honest. mid.buffer honest mid_in_step)

pub returns-clause-carried : goal.returns-clause-carried
returns-clause-carried g c settled honest =
    let in_step : is_in_step c.args.self.now.link ≡ true = search rules in
    let mid_in_step : is_in_step c.flush.new.self.link ≡ true = c.in_ok-flush.ensures.ok in_step in
    let exact : c.in_ok-frame.frame.items ≡ operation_frame c.args.out.now (length c.args.reply.now) = search rules in
    let whole : IsFrame c.in_ok-frame.frame.items = search rules in
    let reads : replies_in c.in_ok-frame.frame.items ≡ length c.args.reply.now = search rules in
    let alone : c.deref-2.result.now ≡ c.in_ok-frame.frame.items = search rules in
    let mid = c.flush.ensures.settled settled in
    let same = c.flush.ensures.nature ∙ honest in
    carried_later c.exchange_batch-2.result c.flush.new.self.waits c.args.out.now (device_at c.args.self.now)
    (g.P.Port.state c.flush.new.self.link.port) (g.P.Port.state c.exchange_batch-2.new.self.port)
    c.exchange_batch-2.new.reply c.flush.ensures.empty (c.in_ok-flush.ensures.carried settled honest)
    (c.exchange_batch-2.ensures.exchanged same (mid.settled.idle same mid_in_step) c.args.out.now
    (sends_alone c.args.out.now (length c.args.reply.now) c.in_ok-frame.frame.items c.deref-2.result.now _ alone exact
    whole reads))

pub returns-clause-cut : goal.returns-clause-cut
returns-clause-cut g c settled honest =
    let in_step : is_in_step c.args.self.now.link ≡ true = search rules in
    let mid_in_step : is_in_step c.flush.new.self.link ≡ true = c.in_ok-flush.ensures.ok in_step in
    let exact : c.in_ok-frame.frame.items ≡ operation_frame c.args.out.now (length c.args.reply.now) = search rules in
    let whole : IsFrame c.in_ok-frame.frame.items = search rules in
    let reads : replies_in c.in_ok-frame.frame.items ≡ length c.args.reply.now = search rules in
    let alone : c.deref-2.result.now ≡ c.in_ok-frame.frame.items = search rules in
    let mid = c.flush.ensures.settled settled in
    let same = c.flush.ensures.nature ∙ honest in
    cut_later c.exchange_batch-2.result c.flush.new.self.waits c.args.out.now (device_at c.args.self.now)
    (g.P.Port.state c.flush.new.self.link.port) (g.P.Port.state c.exchange_batch-2.new.self.port)
    c.flush.ensures.empty (c.in_ok-flush.ensures.carried settled honest)
    (c.exchange_batch-2.ensures.interrupted same (mid.settled.idle same mid_in_step) mid_in_step c.args.out.now
    (sends_alone c.args.out.now (length c.args.reply.now) c.in_ok-frame.frame.items c.deref-2.result.now _ alone exact
    whole reads))
