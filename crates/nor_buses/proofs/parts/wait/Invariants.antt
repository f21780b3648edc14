use Rattle.std.proofs.Common.{◌≡◌}
use Rattle.nor_model.specs.Bus.{SameNature}
use Rattle.nor_buses.proofs.Splits.{OnlyPolls}
use Rattle.nor_buses.proofs.parts.wait.Given as goal

abbrev pub invariant-loop : goal.invariant-loop
invariant-loop g l =
    record {
      polls : OnlyPolls (g.B.Bus.state l.fn.bus).history (g.B.Bus.state l.bus).history;
      passed : (g.B.Bus.state l.bus).passed ≡ (g.B.Bus.state l.fn.bus).passed;
      nature : SameNature (g.B.Bus.state l.fn.bus) (g.B.Bus.state l.bus);
    }
