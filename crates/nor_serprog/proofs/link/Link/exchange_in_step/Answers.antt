use Rattle.std.proofs.Common.{◌∙◌, length, inr, rules}
use Rattle.std.proofs.lemmas.Result.{err_from_is_err_and}
use Rattle.nor_serprog.proofs.Exchanges.{exchanged_by, cut_off_by, missed_by, on_err, unrefused_at, unrefused_by}
use Rattle.nor_serprog.proofs.Replied.{answered_ok, answered_cut_off, answered_missed}
use Rattle.nor_serprog.proofs.link.Link.exchange_in_step.Goals as goal

pub returns-clause-exchanged : goal.returns-clause-exchanged
returns-clause-exchanged g c honest idle =
    exchanged_by c.args.command c.in_ok-frame.frame.items c.receive_answer.new.reply (length c.args.reply.now)
    (g.P.Port.state c.args.self.now.port) (g.P.Port.state c.send.new.port)
    (g.P.Port.state c.receive_answer.new.port) idle c.in_ok-frame.ensures.whole c.in_ok-frame.ensures.reads
    (c.in_ok-send.ensures.sent honest)
    (c.in_ok-receive_answer.ensures.answered (c.send.ensures.nature ∙ honest)) c.receive_answer.auto.reply

pub returns-in_err-send-clause-interrupted : goal.returns-in_err-send-clause-interrupted
returns-in_err-send-clause-interrupted g c honest idle =
    on_err _ _
    (inr (cut_off_by c.args.command c.in_ok-frame.frame.items (length c.args.reply.now) (g.P.Port.state c.args.self.now.port)
    (g.P.Port.state c.send.new.port) idle c.in_ok-frame.ensures.whole c.in_ok-frame.ensures.reads
    (c.in_err-send.ensures.cut_off honest)))

pub returns-in_err-receive_answer-clause-interrupted : goal.returns-in_err-receive_answer-clause-interrupted
returns-in_err-receive_answer-clause-interrupted g c honest idle =
    on_err _ _
    (inr (missed_by c.args.command c.in_ok-frame.frame.items (length c.args.reply.now) (g.P.Port.state c.args.self.now.port)
    (g.P.Port.state c.send.new.port) (g.P.Port.state c.receive_answer.new.port) idle
    c.in_ok-frame.ensures.whole c.in_ok-frame.ensures.reads (c.in_ok-send.ensures.sent honest)
    (c.in_err-receive_answer.ensures.missed (c.send.ensures.nature ∙ honest))))

pub returns-clause-answered : goal.returns-clause-answered
returns-clause-answered g c awaits has =
    answered_ok c.args.command c.in_ok-frame.frame.items (length c.args.reply.now) c.receive_answer.new.reply
    (g.P.Port.state c.args.self.now.port) (g.P.Port.state c.send.new.port) (g.P.Port.state c.receive_answer.new.port)
    awaits c.in_ok-frame.ensures.exact has (c.in_ok-send.ensures.sent awaits.honest)
    (c.in_ok-receive_answer.ensures.answered (c.send.ensures.nature ∙ awaits.honest)) c.send.ensures.nature
    c.receive_answer.ensures.nature c.receive_answer.auto.reply

pub returns-in_err-send-clause-answered : goal.returns-in_err-send-clause-answered
returns-in_err-send-clause-answered g c awaits has =
    let p = err_from_is_err_and c.from_residual-in_err-send.result c.from_residual-in_err-send.ensures.1 in
    rw (p.1, p.2)
    (answered_cut_off c.args.command c.in_ok-frame.frame.items (length c.args.reply.now) c.args.reply.now _
    (g.P.Port.state c.args.self.now.port) (g.P.Port.state c.send.new.port) awaits c.in_ok-frame.ensures.exact has
    (c.in_err-send.ensures.cut_off awaits.honest) c.in_err-send.ensures.cause)

pub returns-in_err-receive_answer-clause-answered : goal.returns-in_err-receive_answer-clause-answered
returns-in_err-receive_answer-clause-answered g c awaits has =
    let p = err_from_is_err_and c.from_residual-in_err-receive_answer.result
    c.from_residual-in_err-receive_answer.ensures.1 in
    let honest = c.send.ensures.nature ∙ awaits.honest in
    rw (p.1, p.2)
    (answered_missed c.args.command c.in_ok-frame.frame.items (length c.args.reply.now) c.receive_answer.new.reply _ _
    (g.P.Port.state c.args.self.now.port) (g.P.Port.state c.send.new.port) (g.P.Port.state c.receive_answer.new.port)
    awaits c.in_ok-frame.ensures.exact has (c.in_ok-send.ensures.sent awaits.honest)
    (c.in_err-receive_answer.ensures.missed honest) (c.in_err-receive_answer.ensures.cause honest)
    (λ naks. (c.in_err-receive_answer.ensures.refused honest naks).1) (search rules)
    (c.in_err-receive_answer.ensures.power honest))

pub returns-in_err-send-clause-unrefused : goal.returns-in_err-send-clause-unrefused
returns-in_err-send-clause-unrefused g c honest idle =
    let p = err_from_is_err_and c.from_residual-in_err-send.result c.from_residual-in_err-send.ensures.1 in
    rw (p.1, p.2) (unrefused_at c.args.command _ c.in_err-send.ensures.cause)

pub returns-in_err-receive_answer-clause-unrefused : goal.returns-in_err-receive_answer-clause-unrefused
returns-in_err-receive_answer-clause-unrefused g c honest idle =
    let p = err_from_is_err_and c.from_residual-in_err-receive_answer.result
    c.from_residual-in_err-receive_answer.ensures.1 in
    rw (p.1, p.2)
    (unrefused_by c.args.command c.in_ok-frame.frame.items _ (g.P.Port.state c.args.self.now.port)
    (g.P.Port.state c.send.new.port) idle c.in_ok-frame.ensures.whole c.in_ok-frame.ensures.reads
    (c.in_ok-send.ensures.sent honest) (c.in_err-receive_answer.ensures.cause (c.send.ensures.nature ∙ honest)))
