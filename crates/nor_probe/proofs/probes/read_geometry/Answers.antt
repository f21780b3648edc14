use Rattle.std.proofs.Common.{rules}
use Rattle.nor_probe.proofs.Replied.{type_by_sfdp}
use Rattle.nor_probe.proofs.Shown.{parameters_say}
use Rattle.nor_probe.proofs.probes.read_geometry.Goals as goal

pub returns-in_err-geometry-clause-errors : goal.returns-in_err-geometry-clause-errors
returns-in_err-geometry-clause-errors g c honest idle =
    let read = c.in_ok-parameters.ensures.reads honest in search (rules, parameters_say, read.shown)

pub returns-clause-reads : goal.returns-clause-reads
returns-clause-reads g c honest =
    let read = c.in_ok-parameters.ensures.reads honest in search (rules, parameters_say, read.shown)

pub returns-clause-by_sfdp : goal.returns-clause-by_sfdp
returns-clause-by_sfdp g c =
    type_by_sfdp c.in_ok-parameters.ensures.replied (search rules)
