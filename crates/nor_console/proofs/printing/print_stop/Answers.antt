use Rattle.nor_console.specs.Lines.{line}
use Rattle.nor_console.proofs.printing.print_stop.Goals as goal

pub returns : goal.returns
unfolding line
returns g c = rw c.how_it_went-how.ensures at c.writeln.ensures.bytes
