use Rattle.std.proofs.Math.Logic.{∥∥₁_map}
use Rattle.nor_model.proofs.Passed.{passed_after}
use Rattle.nor_buses.proofs.accounted.AccountedBus.transfer.Goals as goal

pub invariant_of-self : goal.invariant_of-self
invariant_of-self g c = record {
  accounted = ∥∥₁_map c.args.self.now.accounted (λ passed.
      passed_after c.args.out.now (g.B.Bus.state c.args.self.now.bus).sent (g.B.Bus.state c.transfer.new.self).sent
      (g.B.Bus.state c.args.self.now.bus).passed (g.B.Bus.state c.transfer.new.self).passed
      c.transfer.ensures.records.sent c.transfer.ensures.records.passed passed);
}
