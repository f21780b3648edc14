use Rattle.std.proofs.Common.{inr}
use Rattle.board_jobs.proofs.fitting.restore_fitting.Goals as goal

pub returns-in-Err-StatusDiffers : goal.returns-in-Err-StatusDiffers
returns-in-Err-StatusDiffers g c = inr (record {
  refused = g.B.Bus.state c.restore_saved.new.bus;
  first = rw (c.in-Err-StatusDiffers.is, c.in-Err-StatusDiffers.field-0-is) at c.restore_saved.ensures;
  again = c.restore_again.ensures;
})
