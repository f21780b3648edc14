use Rattle.std.proofs.Common.{[], ◌∷◌, arith}
use Rattle.std.proofs.lemmas.Result.{err_from_is_err_and}
use Rattle.nor_serprog.specs.declared.command.Command.TheVariants.{Nop}
use Rattle.nor_serprog.specs.Replies.{AwaitsCommand, OnlyAsks}
use Rattle.nor_serprog.proofs.Synchronized.{row, first_row, whole_row, row_done, asks_then, row_cut, row_missed, few_then, few_of_more}
use Rattle.nor_serprog.proofs.link.Link.synchronize.Goals.{After-send_all-2}
use Rattle.nor_serprog.proofs.link.Link.synchronize.Goals as goal

pub returns-in_err-send_all-clause-synchronized : goal.returns-in_err-send_all-clause-synchronized
returns-in_err-send_all-clause-synchronized g c awaits whole =
    let p = err_from_is_err_and c.from_residual.result c.from_residual.ensures.1 in
    rw (p.1, p.2)
    (row_cut (Nop ∷ []) _ _ 28 _ (g.P.Port.state c.args.self.now.port) (g.P.Port.state c.send_all.new.port)
    first_row awaits (c.in_err-send_all.ensures.cut_off awaits.honest) c.in_err-send_all.ensures.cause (omega arith))

pub returns-in_err-skip_past-clause-synchronized : goal.returns-in_err-skip_past-clause-synchronized
returns-in_err-skip_past-clause-synchronized g c awaits whole =
    let p = err_from_is_err_and c.from_residual-in_err-skip_past.result c.from_residual-in_err-skip_past.ensures.1 in
    let old = g.P.Port.state c.args.self.now.port in
    let new = g.P.Port.state c.skip_past.new.port in
    rw (p.1, p.2)
    (few_of_more 2 28 _ old new (omega arith)
    (row_missed (Nop ∷ []) _ _ 1 _ old (g.P.Port.state c.send_all.new.port) new first_row awaits
    c.send_all.ensures.nature (c.in_ok-send_all.ensures.sent awaits.honest) c.in_err-skip_past.ensures.skips))

first : (g : _) (c : After-send_all-2 g) → AwaitsCommand (g.P.Port.state c.args.self.now.port)
    → OnlyAsks 2 (g.P.Port.state c.args.self.now.port) (g.P.Port.state c.skip_past.new.port)
first g c awaits =
    row_done (Nop ∷ []) _ _ 1 (g.P.Port.state c.args.self.now.port) (g.P.Port.state c.send_all.new.port)
    (g.P.Port.state c.skip_past.new.port) first_row awaits c.send_all.ensures.nature
    (c.in_ok-send_all.ensures.sent awaits.honest) c.in_ok-skip_past.ensures.skips

pub returns-in_err-send_all-2-clause-synchronized : goal.returns-in_err-send_all-2-clause-synchronized
returns-in_err-send_all-2-clause-synchronized g c awaits whole =
    let p = err_from_is_err_and c.from_residual-in_err-send_all-2.result c.from_residual-in_err-send_all-2.ensures.1 in
    let mid = g.P.Port.state c.skip_past.new.port in
    let new = g.P.Port.state c.send_all-2.new.port in
    let f = first g (goal.at.returns-in_err-send_all-2-clause-synchronized g c).After-send_all-2 awaits in
    rw (p.1, p.2)
    (few_then 2 26 _ (g.P.Port.state c.args.self.now.port) mid new f
    (row_cut row _ _ 26 _ mid new whole_row f.awaits (c.in_err-send_all-2.ensures.cut_off f.awaits.honest)
    c.in_err-send_all-2.ensures.cause (omega arith)))

pub returns-in_err-skip_past-2-clause-synchronized : goal.returns-in_err-skip_past-2-clause-synchronized
returns-in_err-skip_past-2-clause-synchronized g c awaits whole =
    let p = err_from_is_err_and c.from_residual-in_err-skip_past-2.result
    c.from_residual-in_err-skip_past-2.ensures.1 in
    let mid = g.P.Port.state c.skip_past.new.port in
    let new = g.P.Port.state c.skip_past-2.new.port in
    let f = first g (goal.at.returns-in_err-skip_past-2-clause-synchronized g c).After-send_all-2 awaits in
    rw (p.1, p.2)
    (few_then 2 26 _ (g.P.Port.state c.args.self.now.port) mid new f
    (row_missed row _ _ 25 _ mid (g.P.Port.state c.send_all-2.new.port) new whole_row f.awaits
    c.send_all-2.ensures.nature (c.in_ok-send_all-2.ensures.sent f.awaits.honest) c.in_err-skip_past-2.ensures.skips))

pub returns-clause-synchronized : goal.returns-clause-synchronized
returns-clause-synchronized g c awaits whole =
    let mid = g.P.Port.state c.skip_past.new.port in
    let new = g.P.Port.state c.skip_past-2.new.port in
    let f = first g (goal.at.returns-clause-synchronized g c).After-send_all-2 awaits in
    record {
      done = asks_then 2 26 (g.P.Port.state c.args.self.now.port) mid new f
          (row_done row _ _ 25 mid (g.P.Port.state c.send_all-2.new.port) new whole_row f.awaits
          c.send_all-2.ensures.nature (c.in_ok-send_all-2.ensures.sent f.awaits.honest)
          c.in_ok-skip_past-2.ensures.skips);
      few_left = tt;
      power = tt;
    }
