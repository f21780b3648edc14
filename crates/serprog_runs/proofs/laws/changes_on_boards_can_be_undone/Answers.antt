use Rattle.serprog_runs.proofs.Undone.{board_undone, job_of}
use Rattle.serprog_runs.proofs.laws.changes_on_boards_can_be_undone.Goals as goal

pub returns : goal.returns
returns g c = λ files after name file operation device last out out' status change port run none is journalled reaches board lawful.
    board_undone port _
    (record {
      operation = operation;
      regions = run.regions;
      ranges = run.ranges;
      bytes = run.bytes;
      made = run.made;
      after = after;
      start = _;
      last = last;
      out = out;
      out' = out';
      status = status;
      ran = job_of operation run.regions run.ranges run.bytes run.made (g.R.Store.state after) _ last out out' status
          operation.srp0 run.ran none;
    })
    change file reaches run.ahead board is journalled lawful
