use Rattle.std.specs.Prelude.{option_copied}
use Rattle.nor_read.specs.Reading.{ReadsPiece}
use Rattle.nor_read.proofs.reading.read_piece.Given as goal

abbrev pub invariant-loop-k : goal.invariant-loop-k
invariant-loop-k g l =
    ReadsPiece (option_copied l.fn.included) l.fn.piece l.k l.bytes (g.B.Bus.state l.fn.bus) (g.B.Bus.state l.bus) l.reads
