-- Lemma: the first bytes of a transaction that begins harmlessly do, too.
use Rattle.std.proofs.Common.{◌≡◌, ◌≤◌, ◌∷◌, [], ℕ, List, arith, take, true, zero, suc}
use Rattle.std.proofs.lemmas.Bool.{false≢true}
use Rattle.nor_serprog.specs.Harmless.{begins_harmless}

pub harmless_start : (n : ℕ) (out : List ℕ) → 1 ≤ n → begins_harmless out ≡ true → begins_harmless (take n out) ≡ true
harmless_start zero out some is = absurd (omega (arith, some))
harmless_start (suc n) [] some is = absurd (false≢true is)
harmless_start (suc n) (byte ∷ rest) some is = is
