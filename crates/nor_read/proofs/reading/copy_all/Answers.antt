use Rattle.std.proofs.Common.{◌≡◌, ◌/◌, arith, rules}
use Rattle.nor_driver.proofs.RestsInTurn.{only_reads_after}
use Rattle.nor_read.proofs.Copied.{copied_none, copied_more, copy_fails, copy_stops}
use Rattle.nor_read.proofs.reading.copy_all.Goals as goal

pub loop-piece-init : goal.loop-piece-init
loop-piece-init g c = search (rules, copied_none)

pub loop-piece-preserved : goal.loop-piece-preserved
loop-piece-preserved g c = copied_more (omega arith) (omega arith) c.loop-piece.invariant
    c.in_ok-reads.ensures.reads c.in_ok-put_piece.ensures.takes

pub returns-in_err-reads-clause-leaves : goal.returns-in_err-reads-clause-leaves
returns-in_err-reads-clause-leaves g c = only_reads_after c.loop-piece.reads 16 (c.args.size / 4096) _ _ _ (omega arith)
    c.loop-piece.invariant.honest_reads c.read_piece.ensures.leaves

pub returns-in_err-put_piece-clause-leaves : goal.returns-in_err-put_piece-clause-leaves
returns-in_err-put_piece-clause-leaves g c = only_reads_after c.loop-piece.reads 16 (c.args.size / 4096) _ _ _ (omega arith)
    c.loop-piece.invariant.honest_reads c.read_piece.ensures.leaves

pub returns-in_err-put_piece-clause-errors : goal.returns-in_err-put_piece-clause-errors
returns-in_err-put_piece-clause-errors g c =
    let before = copy_fails (omega arith) (omega arith) c.loop-piece.invariant
    c.in_ok-reads.ensures.reads _ c.in_err-put_piece.field-0.0 c.in_err-put_piece.ensures.errors in
    search (rules, before)

pub returns-in_err-reads-clause-errors : goal.returns-in_err-reads-clause-errors
returns-in_err-reads-clause-errors g c =
    let before = copy_stops (omega arith) c.loop-piece.invariant c.read_piece.ensures.leaves
    c.in_err-reads.ensures.stops in
    search (rules, before)

pub returns-clause-reads : goal.returns-clause-reads
returns-clause-reads g c =
    let end : c.loop-piece.piece ≡ c.args.size / 65536 = omega arith in rw end at c.loop-piece.invariant
