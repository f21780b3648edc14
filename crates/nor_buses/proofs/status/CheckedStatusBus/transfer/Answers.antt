use Rattle.std.proofs.Common.{◌∙◌, length, sym, subst, rules}
use Rattle.std.specs.Prelude.{Result, OnErr}
use Rattle.nor_model.specs.Bus.{SameNature, IsHonestFor, AtStop}
use Rattle.nor_model.specs.declared.bus.Stopped.{Stopped}
use Rattle.nor_buses.specs.Checked.{inner_state}
use Rattle.nor_buses.proofs.Around.{transfers_beside}
use Rattle.nor_buses.proofs.ReadsKeep.{stops_at, keeps_none, keeps_stops}
use Rattle.nor_buses.proofs.Polls.{nature_none}
use Rattle.nor_buses.proofs.status.CheckedStatusBus.transfer.Goals as goal
use Rattle.nor_buses.proofs.status.CheckedStatusBus.transfer.Goals.{in-Some, in-None}

pub returns-in-Err-clause-law : goal.returns-in-Err-clause-law
returns-in-Err-clause-law g c =
    let nature : SameNature (inner_state c.args.self.now) (inner_state c.match-refusal.self) =
    elim c.match-refusal.branch [
      | in-Some w ↦ rw (w.self-is, w.stop.ensures.inside) nature_none
      | in-None w ↦ rw w.self-is w.carry-carried.ensures.nature
    ] in
    let stops : IsHonestFor c.args.out.now (length c.args.reply.now) (inner_state c.args.self.now)
    → AtStop c.args.out.now (inner_state c.args.self.now) (inner_state c.match-refusal.self) = λ fits.
    elim c.match-refusal.branch [
      | in-Some w ↦ rw (w.self-is, w.stop.ensures.inside) (stops_at (keeps_stops keeps_none))
      | in-None w ↦ rw w.self-is (subst (λ (r : Result Unit Stopped). OnErr r
          (AtStop c.args.out.now (inner_state c.args.self.now) (inner_state w.carry-carried.new.self)))
          (sym w.carried-is ∙ c.in-Err.is) (w.carry-carried.ensures.stops fits))
    ] in
    transfers_beside _ nature stops (λ fits. tt) (search rules)
