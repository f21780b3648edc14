use Rattle.std.proofs.Common.{None, Some, Option, sym, ◌≡◌, IfSome, List, ℕ}
use Rattle.nor_probe.specs.declared.table.Part.{Part}
use Rattle.nor_probe.specs.Table.{part_with_name, IsEmulatedPart}
use Rattle.nor_probe.proofs.Rows.{named_emulated}
use Rattle.nor_probe.proofs.table.emulated_part.Goals as goal

each_emulated : (text : List ℕ) (row : Option Part) → part_with_name text ≡ row → IfSome row IsEmulatedPart
each_emulated text (Some part) is = named_emulated text part is
each_emulated text None is = tt

pub returns-else-eq-clause-emulated : goal.returns-else-eq-clause-emulated
returns-else-eq-clause-emulated c = each_emulated c.args.name.now c.part_named.result (sym c.part_named.ensures)
