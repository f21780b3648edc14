use Rattle.std.proofs.Common.{arith}
use Rattle.board_files.specs.Images.{with_unique_and_status}
use Rattle.board_files.proofs.Whole.{encoded_all, encoded_more, encoded_none}
use Rattle.board_files.proofs.replacing.encode.Goals as goal

pub loop-index-init : goal.loop-index-init
loop-index-init c = rw c.in_ok-bytes.ensures (encoded_none _)

pub loop-index-preserved : goal.loop-index-preserved
loop-index-preserved c = rw c.in_ok-append_record.ensures
    (encoded_more _ _ c.args.journal.now.saved c.loop-index.index _ (omega arith) c.sector-number.ensures.value
    c.loop-index.invariant)

pub returns : goal.returns
returns c = rw c.in_ok-append_end.ensures
    (encoded_all (with_unique_and_status c.args.unique c.args.status c.args.journal.now) _ c.loop-index.index (omega arith) c.loop-index.invariant)
