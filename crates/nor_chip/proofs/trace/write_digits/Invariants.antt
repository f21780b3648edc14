use Rattle.std.proofs.Common.{List, Option, ℕ, length}
use Rattle.std.specs.Io.KnownBytes.{Appends}
use Rattle.hex.specs.Hex.{encode_lower}
use Rattle.nor_chip.proofs.trace.write_digits.Given as goal

abbrev pub invariant-loop-rest : goal.invariant-loop-rest
invariant-loop-rest g l = (ends : Option (List ℕ))
    → Appends (g.L.Write.contents l.log) ends (encode_lower l.rest)
    → Appends (g.L.Write.contents l.fn.log) ends (encode_lower l.fn.bytes)

abbrev pub decreases-loop-rest : goal.decreases-loop-rest
decreases-loop-rest g l = length l.rest
