use Rattle.nor_maps.specs.Fmap.{with_area}
use Rattle.nor_maps.proofs.Tables.{RecordsDefine}
use Rattle.nor_maps.proofs.fmap.read_areas.Given as goal

abbrev pub invariant-loop-before : goal.invariant-loop-before
invariant-loop-before l = RecordsDefine (with_area l.size) 42 1 l.areas l.before l.layout
