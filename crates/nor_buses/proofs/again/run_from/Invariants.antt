use Rattle.std.proofs.Common.{◌≡◌, ◌<◌, ◌≤◌, ◌-◌, ℕ, true, false, length}
use Rattle.nor_buses.specs.Again.{IsExpected, DiffersInSector}
use Rattle.nor_buses.proofs.again.run_from.Given as goal

abbrev pub invariant-loop-end : goal.invariant-loop-end
invariant-loop-end l =
    record {
      after : l.from < l.end;
      within : l.end ≤ length l.reply;
      expected : l.is_expected ≡ true → (i : ℕ) → l.from ≤ i → i < l.end → IsExpected l.image l.address l.reply i;
      differs : l.is_expected ≡ false → (i : ℕ) → l.from ≤ i → i < l.end → DiffersInSector l.image l.address l.reply i;
    }

abbrev pub decreases-loop-end : goal.decreases-loop-end
decreases-loop-end l = length l.reply - l.end
