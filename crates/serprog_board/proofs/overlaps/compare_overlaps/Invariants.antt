use Rattle.std.specs.Prelude.{◌≡◌, true, Ok}
use Rattle.nor_serprog.specs.Harmless.{StaysHarmless}
use Rattle.nor_serprog.specs.Link.{is_in_step}
use Rattle.nor_serprog.specs.Replies.{AwaitsCommand}
use Rattle.serprog_board.specs.Looking.{EndsLooking}
use Rattle.serprog_board.specs.Ports.{asked_over}
use Rattle.serprog_board.proofs.overlaps.compare_overlaps.Given as goal

abbrev pub invariant-loop-place : goal.invariant-loop-place
invariant-loop-place g l = record {
  harmless : StaysHarmless (asked_over g.P.Port.state l.fn.link) (asked_over g.P.Port.state l.link);
  nature : (g.P.Port.state l.link.port).honest ≡ (g.P.Port.state l.fn.link.port).honest;
  looks : AwaitsCommand (g.P.Port.state l.fn.link.port) → is_in_step l.fn.link ≡ true
      → EndsLooking {T = Unit} {E = Unit} g.P.Port.state (Ok tt) l.fn.link l.link;
}
