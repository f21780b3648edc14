use Rattle.std.proofs.Common.{rules}
use Rattle.nor_probe.proofs.Applied.{row_identified}
use Rattle.nor_probe.proofs.probes.identify.Goals as goal

pub returns-in-Some-clause-part : goal.returns-in-Some-clause-part
returns-in-Some-clause-part g c =
    row_identified c.args.further c.args.id c.in-Some.part (search rules) (search rules)
