use Rattle.std.specs.Io.KnownBytes.{Keeps}
use Rattle.nor_files.proofs.making.write_again.Given as goal

abbrev pub invariant-loop : goal.invariant-loop
invariant-loop g l = Keeps (g.F.Write.contents l.fn.file) (g.F.Write.contents l.file)
