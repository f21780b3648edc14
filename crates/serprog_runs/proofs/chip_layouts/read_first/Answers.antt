use Rattle.std.proofs.lemmas.Result.{IfOk-weaker}
use Rattle.serprog_board.proofs.Results.{none_ok}
use Rattle.serprog_runs.proofs.ReadLayouts.{layout_reads}
use Rattle.serprog_runs.proofs.chip_layouts.read_first.Goals as goal

pub returns : goal.returns
returns g c = IfOk-weaker c.read_and_report.result _ _ (λ chip read. record {
  start = c.in_ok-connected.connected;
  same_device = c.in_ok-connected.ensures.named;
  fresh = c.in_ok-connected.ensures.fresh;
  finds = c.in_ok-connected.ensures.finds;
  unexpecting = c.in_ok-connected.ensures.expects;
  last = _;
  read = read;
  sends = layout_reads _ _ _ _ _ read;
}) c.read_and_report.ensures

pub returns-in_err-connected : goal.returns-in_err-connected
returns-in_err-connected g c = none_ok _ _ c.from_residual.result c.from_residual.ensures.1
