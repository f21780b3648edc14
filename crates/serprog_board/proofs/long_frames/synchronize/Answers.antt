use Rattle.nor_serprog.proofs.Harmless.{harmless_sync}
use Rattle.serprog_board.proofs.Looking.{synchronized_looks}
use Rattle.serprog_board.proofs.long_frames.synchronize.Goals as goal

pub returns : goal.returns
returns g c = record {
  harmless = harmless_sync _ _ c.synchronize.ensures.asked;
  nature = c.synchronize.ensures.nature;
  looks = λ awaits whole.
      synchronized_looks g.P.Port.state 28 c.synchronize.result c.args.link.now c.synchronize.new.self
      c.synchronize.ensures.ok (c.synchronize.ensures.synchronized awaits whole);
}
