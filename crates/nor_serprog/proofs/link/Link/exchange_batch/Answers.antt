use Rattle.std.proofs.Common.{◌∙◌, length, refl}
use Rattle.nor_serprog.proofs.Batches.{acks_begin, answer_begins, exchanged_batch, interrupted_send, interrupted_answer}
use Rattle.nor_serprog.proofs.Exchanges.{on_err}
use Rattle.nor_serprog.proofs.link.Link.exchange_batch.Goals as goal

pub returns-clause-exchanged : goal.returns-clause-exchanged
returns-clause-exchanged g c honest idle out sends =
    exchanged_batch c.args.is_led out c.receive_answer.new.reply (length c.args.reply.now) c.args.frames.now
    (g.P.Port.state c.args.self.now.port) (g.P.Port.state c.send_all.new.port) (g.P.Port.state c.receive_acks.new.port)
    (g.P.Port.state c.receive_answer.new.port) idle sends (c.in_ok-send_all.ensures.sent honest)
    (c.in_ok-receive_acks.ensures.taken (c.send_all.ensures.nature ∙ honest))
    (c.in_ok-receive_answer.ensures.answered (c.receive_acks.ensures.nature ∙ c.send_all.ensures.nature ∙ honest))
    c.receive_answer.auto.reply

pub returns-in_err-send_all-clause-interrupted : goal.returns-in_err-send_all-clause-interrupted
returns-in_err-send_all-clause-interrupted g c honest idle in_step out sends =
    on_err _ _
    (interrupted_send c.args.is_led out (length c.args.reply.now) c.args.frames.now
    (g.P.Port.state c.args.self.now.port) (g.P.Port.state c.send_all.new.port) idle sends
    (c.in_err-send_all.ensures.cut_off honest))

pub returns-in_err-receive_acks-clause-interrupted : goal.returns-in_err-receive_acks-clause-interrupted
returns-in_err-receive_acks-clause-interrupted g c honest idle in_step out sends =
    let sent = c.in_ok-send_all.ensures.sent honest in
    on_err _ _
    (interrupted_answer c.args.is_led out (length c.args.reply.now) 0 c.args.frames.now
    (g.P.Port.state c.args.self.now.port) (g.P.Port.state c.send_all.new.port) (g.P.Port.state c.send_all.new.port)
    (g.P.Port.state c.receive_acks.new.port) idle sends sent refl refl
    (c.in_err-receive_acks.ensures.missed (c.send_all.ensures.nature ∙ honest)
    (acks_begin c.args.is_led out (length c.args.reply.now) c.args.frames.now (g.P.Port.state c.args.self.now.port)
    (g.P.Port.state c.send_all.new.port) idle sends sent)))

pub returns-in_err-receive_answer-clause-interrupted : goal.returns-in_err-receive_answer-clause-interrupted
returns-in_err-receive_answer-clause-interrupted g c honest idle in_step out sends =
    let sent = c.in_ok-send_all.ensures.sent honest in
    let taken = c.in_ok-receive_acks.ensures.taken (c.send_all.ensures.nature ∙ honest) in
    on_err _ _
    (interrupted_answer c.args.is_led out (length c.args.reply.now) (length c.args.reply.now) c.args.frames.now
    (g.P.Port.state c.args.self.now.port) (g.P.Port.state c.send_all.new.port) (g.P.Port.state c.receive_acks.new.port)
    (g.P.Port.state c.receive_answer.new.port) idle sends sent taken.chip taken.worn
    (c.in_err-receive_answer.ensures.missed (c.receive_acks.ensures.nature ∙ c.send_all.ensures.nature ∙ honest)
    (answer_begins c.args.is_led out (length c.args.reply.now) c.args.frames.now (g.P.Port.state c.args.self.now.port)
    (g.P.Port.state c.send_all.new.port) (g.P.Port.state c.receive_acks.new.port) idle sends sent taken)))
