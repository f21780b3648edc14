use Rattle.std.proofs.Common.{flat_map, take}
use Rattle.std.specs.Io.KnownBytes.{Appends}
use Rattle.nor_console.specs.AnswerLines.{chip_line}
use Rattle.nor_console.proofs.printing.print_table.Given as goal

abbrev pub invariant-loop-part : goal.invariant-loop-part
invariant-loop-part g l =
    Appends (g.W.Write.contents l.initial.output) (g.W.Write.contents l.output) (flat_map chip_line (take l.part-index l.part-items))
