use Rattle.std.proofs.Common.{◌≡◌, ◌∙◌, true, sym, ap, subst}
use Rattle.std.proofs.lemmas.Result.{on_err_weaker}
use Rattle.nor_model.specs.Bus.{BusState, Carries}
use Rattle.nor_buses.specs.Watched.{watched_by}
use Rattle.nor_buses.proofs.Around.{stops_unsteady, stops_behind}
use Rattle.nor_buses.proofs.ReadsKeep.{stops_at, keeps_none, keeps_stops, on_err}
use Rattle.nor_buses.proofs.watched.Watched.carry.Goals as goal

pub returns-then-self-clause-at_stop : goal.returns-then-self-clause-at_stop
returns-then-self-clause-at_stop g c fits =
    let inside = g.B.Bus.state (watched_by c.args.self.now) in
    stops_unsteady {out = c.args.out.now} {old = inside} {new = inside} (stops_at (keeps_stops keeps_none))

pub returns-in_err-transfer-clause-at_stop : goal.returns-in_err-transfer-clause-at_stop
returns-in_err-transfer-clause-at_stop g c fits =
    on_err c.from_residual.result
    (stops_unsteady {out = c.args.out.now} {old = g.B.Bus.state (watched_by c.args.self.now)}
    {new = g.B.Bus.state c.transfer.new.self} (c.in_err-transfer.ensures.stops fits).at_stop)

pub returns-then-self-2-clause-at_stop : goal.returns-then-self-2-clause-at_stop
returns-then-self-2-clause-at_stop g c fits =
    let before = g.B.Bus.state (watched_by c.args.self.now) in
    let same : g.B.Bus.state (watched_by c.count.new.self) ≡ g.B.Bus.state c.transfer.new.self =
    ap g.B.Bus.state c.count.ensures.bus in
    let made : Carries c.args.out.now c.transfer.new.reply before (g.B.Bus.state (watched_by c.count.new.self)) =
    subst (λ (s : BusState). Carries c.args.out.now c.transfer.new.reply before s) (sym same)
    (c.in_ok-transfer.ensures.carries fits) in
    let honest : (g.B.Bus.state (watched_by c.count.new.self)).honest ≡ true =
    ap (λ (s : BusState). s.honest) same ∙ c.transfer.ensures.nature.honest ∙ fits.honest in
    on_err_weaker c.look.result
    (λ stops. stops_behind {out = c.args.out.now} {answer = c.transfer.new.reply} {old = before}
    {mid = g.B.Bus.state (watched_by c.count.new.self)} {new = g.B.Bus.state (watched_by c.look.new.self)} made stops)
    (c.look.ensures.stops honest)
