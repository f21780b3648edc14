use Rattle.std.proofs.Common.{◌≤◌, ◌-◌, ◌∷◌, ◌++◌, length}
use Rattle.nor_model.specs.Bus.{SameNature}
use Rattle.nor_model.specs.Passed.{PassesParts}
use Rattle.nor_buses.specs.Parts.{address_bytes}
use Rattle.nor_buses.proofs.Splits.{ProgramsInParts}
use Rattle.nor_buses.proofs.parts.program_parts.Given as goal

abbrev pub invariant-loop-done : goal.invariant-loop-done
invariant-loop-done g l =
    record {
      programs : ProgramsInParts l.longest l.address l.bytes l.done (g.B.Bus.state l.fn.bus).history
          (g.B.Bus.state l.bus).history;
      nature : SameNature (g.B.Bus.state l.fn.bus) (g.B.Bus.state l.bus);
      within : l.done ≤ length l.bytes;
      passed : PassesParts (2 ∷ address_bytes l.address ++ l.bytes) (g.B.Bus.state l.fn.bus).passed
          (g.B.Bus.state l.bus).passed;
    }

abbrev pub decreases-loop-done : goal.decreases-loop-done
decreases-loop-done g l = length l.bytes - l.done
