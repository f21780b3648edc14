use Rattle.std.proofs.Common.{◌≡◌, ◌<◌, ℕ}
use Rattle.nor_sums.specs.Sums.{Agree, entry_of}
use Rattle.nor_sums.proofs.changed.find_changed.Given as goal

abbrev pub invariant-loop-sector : goal.invariant-loop-sector
invariant-loop-sector l = l.changed.count ≡ 0 → (s : ℕ) → s < l.sector
    → Agree (entry_of l.fn.before.entries.items s) (entry_of l.fn.after.entries.items s)
