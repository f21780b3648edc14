use Rattle.std.proofs.Common.{ℕ, ◌<◌}
use Rattle.nor_model.specs.Offer.{ProtectsExactly, IsDefined}
use Rattle.nor_model.proofs.guard.code_for.Given as goal

abbrev pub invariant-loop-code : goal.invariant-loop-code
invariant-loop-code l = (lower : ℕ) → lower < l.code → IsDefined lower → ¬ ProtectsExactly l.size lower l.start l.len
