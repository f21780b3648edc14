use Rattle.std.proofs.Common.{refl, sym, ◌+◌, ◌*◌, option_copied, arith}
use Rattle.nor_geometry.proofs.Below.{any_below-some}
use Rattle.nor_layout.specs.Sectors.{includes}
use Rattle.nor_layout.proofs.included.includes_in_sector.Goals as goal

pub returns-in-None-clause-test : goal.returns-in-None-clause-test
returns-in-None-clause-test c = sym (any_below-some 4096 0 (λ i. includes (option_copied c.args.included) (4096 * c.args.sector + i)) (omega arith) (rw c.in-None.is refl))
