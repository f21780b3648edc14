use Rattle.std.proofs.Common.{arith}
use Rattle.nor_journal.proofs.Saved.{sought_above, sought_below, sought_none}
use Rattle.nor_journal.proofs.journal.Journal.find.Goals as goal

pub loop-low-preserved-then-number-sector-2 : goal.loop-low-preserved-then-number-sector-2
loop-low-preserved-then-number-sector-2 c =
    sought_above _ _ c.args.sector c.loop-low.low c.loop-low.high _ _ c.sector-number.ensures.sound.saved c.loop-low.invariant
    c.sector-number.ensures.value (omega arith) c.if-number-sector-2.true

pub loop-low-preserved : goal.loop-low-preserved
loop-low-preserved c =
    sought_below _ _ c.args.sector c.loop-low.low c.loop-low.high _ _ c.sector-number.ensures.sound.saved c.loop-low.invariant
    c.sector-number.ensures.value (omega arith) (omega arith) (omega arith)

pub returns-clause-value : goal.returns-clause-value
returns-clause-value c = sought_none _ c.args.sector c.loop-low.low c.loop-low.high c.loop-low.invariant (omega arith)
