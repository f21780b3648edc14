use Rattle.std.proofs.Common.{flat_map}
use Rattle.std.specs.Io.KnownBytes.{Appends}
use Rattle.nor_console.specs.AnswerLines.{range_line}
use Rattle.nor_console.proofs.printing.print_ranges.Given as goal

abbrev pub invariant-loop-range : goal.invariant-loop-range
invariant-loop-range g l =
    Appends (g.W.Write.contents l.initial.output) (g.W.Write.contents l.output) (flat_map range_line l.yielded)
