use Rattle.std.proofs.Common.{◌-◌}
use Rattle.nor_journal.proofs.Saved.{IsSought}
use Rattle.nor_journal.proofs.journal.Journal.find.Given as goal

abbrev pub invariant-loop-low : goal.invariant-loop-low
invariant-loop-low l = IsSought l.self.saved l.sector l.low l.high

abbrev pub decreases-loop-low : goal.decreases-loop-low
decreases-loop-low l = l.high - l.low
