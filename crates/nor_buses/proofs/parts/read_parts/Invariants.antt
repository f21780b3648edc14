use Rattle.std.proofs.Common.{◌≡◌, ◌≤◌, ◌-◌, length}
use Rattle.std.specs.Prelude.{take}
use Rattle.nor_model.specs.Bus.{SameNature}
use Rattle.nor_buses.proofs.Splits.{ReadsInParts}
use Rattle.nor_buses.proofs.parts.read_parts.Given as goal

abbrev pub invariant-loop-done : goal.invariant-loop-done
invariant-loop-done g l =
    record {
      read : ReadsInParts l.longest l.out (take l.done l.reply) (g.B.Bus.state l.fn.bus).history
          (g.B.Bus.state l.bus).history;
      passed : (g.B.Bus.state l.bus).passed ≡ (g.B.Bus.state l.fn.bus).passed;
      nature : SameNature (g.B.Bus.state l.fn.bus) (g.B.Bus.state l.bus);
      within : l.done ≤ length l.reply;
    }

abbrev pub decreases-loop-done : goal.decreases-loop-done
decreases-loop-done g l = length l.initial.reply - l.done
