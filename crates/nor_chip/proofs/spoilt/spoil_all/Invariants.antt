use Rattle.std.proofs.Common.{◌≡◌, ℕ, List, ◌<◌, ◌≤◌, get_or}
use Rattle.nor_chip.specs.Spoilt.{spoilt_byte}
use Rattle.nor_chip.proofs.spoilt.spoil_all.Given as goal

pub record AreSpoilt (byte_for : ℕ → ℕ) (index : ℕ) (old new : List ℕ) : Type 0 where
  pub done : (k : ℕ) → k < index → get_or new k 0 ≡ byte_for (get_or old k 0)
  pub rest : (k : ℕ) → index ≤ k → get_or new k 0 ≡ get_or old k 0

abbrev pub invariant-loop-byte : goal.invariant-loop-byte
invariant-loop-byte l = AreSpoilt (spoilt_byte l.fn.spoil l.fn.sent l.fn.out) l.byte-index l.fn.reply l.reply
