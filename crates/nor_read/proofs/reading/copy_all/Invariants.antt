use Rattle.std.specs.Prelude.{option_copied}
use Rattle.nor_read.specs.Reading.{ReadsPieces}
use Rattle.nor_read.proofs.reading.copy_all.Given as goal

abbrev pub invariant-loop-piece : goal.invariant-loop-piece
invariant-loop-piece g l =
    ReadsPieces (option_copied l.fn.included) l.fn.size l.piece (g.B.Bus.state l.fn.bus) (g.B.Bus.state l.bus)
    (g.V.Vault.state l.fn.out) (g.V.Vault.state l.out) l.reads
