use Rattle.std.proofs.lemmas.List.{take_all}
use Rattle.nor_console.proofs.Printed.{chips_then}
use Rattle.nor_console.proofs.printing.print_table.Goals as goal

pub loop-part-preserved : goal.loop-part-preserved
loop-part-preserved g c =
    chips_then (g.W.Write.contents c.args.output.now) (g.W.Write.contents c.loop-part.output) (g.W.Write.contents c.print_chip.new.output)
    c.chips-part-items.result.now c.loop-part.part-index _ c.loop-part-test.true c.loop-part.invariant c.in_ok-print_chip.ensures

pub returns : goal.returns
returns g c =
    rw (take_all c.loop-part.part-index _ c.loop-part-test.false, c.chips-part-items.ensures) at c.loop-part.invariant
