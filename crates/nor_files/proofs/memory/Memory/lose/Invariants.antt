use Rattle.std.proofs.Common.{◌≡◌, ◌<◌, ◌≤◌, ℕ, get_or}
use Rattle.nor_files.specs.Stored.{FileLoses}
use Rattle.nor_files.specs.declared.stored.Stored.{Stored}
use Rattle.nor_files.proofs.memory.Memory.lose.Given as goal

abbrev pub invariant-loop-stored : goal.invariant-loop-stored
invariant-loop-stored l = (k : ℕ) (d : Stored)
    → (k < l.stored-index → FileLoses (get_or l.initial.stored-items k d) (get_or l.stored-items k d))
    × (l.stored-index ≤ k → get_or l.stored-items k d ≡ get_or l.initial.stored-items k d)
