use Rattle.nor_maps.specs.Descriptor.{with_entry}
use Rattle.nor_maps.proofs.Tables.{RecordsDefine}
use Rattle.nor_maps.proofs.descriptor.read_entries.Given as goal

abbrev pub invariant-loop-index : goal.invariant-loop-index
invariant-loop-index l = RecordsDefine (with_entry l.size) 4 0 l.table l.index l.layout
