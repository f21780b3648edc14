use Rattle.std.proofs.Common.{flat_map, refl, rules}
use Rattle.nor_console.specs.AnswerLines.{range_line}
use Rattle.nor_console.proofs.printing.print_ranges.Goals as goal

pub returns : goal.returns
returns g c = (
  flat_map range_line c.loop-range.yielded,
  (c.loop-range.yielded, (c.next.new.self, (c.loop-range.range-iterator, search rules, search rules)), refl),
  c.loop-range.invariant,
)
