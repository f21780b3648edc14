use Rattle.std.proofs.Common.{◌≡◌, ℕ, ◌<◌, ◌≤◌}
use Rattle.nor_model.specs.declared.guard.walk.Offered.{Offered}
use Rattle.nor_model.specs.Offer.{IsLeastCode}
use Rattle.nor_model.proofs.guard.walk.OfferedIterator.next.Given as goal

pub record IsPassed (first now : Offered) (code : ℕ) : Type 0 where
  pub same : now ≡ first
  pub none : (other start len : ℕ) → first.next ≤ other → other < code → ¬ IsLeastCode first.size start len other

abbrev pub invariant-loop-code : goal.invariant-loop-code
invariant-loop-code l = IsPassed l.initial.self l.self l.code
