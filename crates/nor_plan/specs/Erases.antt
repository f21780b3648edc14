use Rattle.std.specs.Prelude.{List}
use Rattle.nor_driver.specs.declared.units.Erase.{Erase}
use Rattle.nor_plan.specs.declared.erase.iter.Erases.{Erases}
use Rattle.nor_plan.specs.SectorSet.{has}
use Rattle.nor_plan.specs.Planned.{planned_from}

unfoldable pub erases_left : Erases → List Erase
erases_left e = planned_from e.whole e.kinds (has e.set) e.from
