use Rattle.std.proofs.Common.{◌≡◌}
use Rattle.nor_session.proofs.RehearsedRestores.{AreStopped}
use Rattle.nor_session.proofs.rehearsals.restore_in_turn.Given as goal

abbrev pub invariant-loop-stop : goal.invariant-loop-stop
invariant-loop-stop g l =
    record {
      restores : l.restores ≡ l.stop-index;
      stopped : AreStopped l.fn.journal l.fn.stops (g.B.Bus.state l.fn.bus) (g.B.Bus.state l.bus) l.stop-index;
    }
