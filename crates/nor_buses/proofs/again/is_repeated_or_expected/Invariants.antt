use Rattle.std.proofs.Common.{◌≡◌, ◌≤◌, ◌-◌, length}
use Rattle.nor_model.specs.Bus.{IsHonestFor, SameNature}
use Rattle.nor_buses.specs.ReadsAs.{KeepsRecord}
use Rattle.nor_buses.specs.Keeps.{KeepsAll}
use Rattle.nor_buses.specs.Again.{data_read, RepeatsBelow, HasData}
use Rattle.nor_buses.proofs.again.is_repeated_or_expected.Given as goal

abbrev pub invariant-loop-done : goal.invariant-loop-done
invariant-loop-done g l =
    record {
      within : l.done ≤ length l.reply;
      nature : SameNature (g.B.Bus.state l.fn.bus) (g.B.Bus.state l.bus);
      passed : (g.B.Bus.state l.bus).passed ≡ (g.B.Bus.state l.fn.bus).passed;
      keeps : KeepsRecord (g.B.Bus.state l.fn.bus) (g.B.Bus.state l.bus);
      repeats : RepeatsBelow l.image l.address l.reply l.done (g.B.Bus.state l.fn.bus) (g.B.Bus.state l.bus);
      leaves : IsHonestFor (data_read l.address) (length l.reply) (g.B.Bus.state l.fn.bus)
          → KeepsAll (g.B.Bus.state l.fn.bus) (g.B.Bus.state l.bus);
      has : IsHonestFor (data_read l.address) (length l.reply) (g.B.Bus.state l.fn.bus)
          → HasData (g.B.Bus.state l.fn.bus).chip l.address l.reply
          → HasData (g.B.Bus.state l.bus).chip l.address l.reply;
    }

abbrev pub decreases-loop-done : goal.decreases-loop-done
decreases-loop-done g l = length l.reply - l.done
