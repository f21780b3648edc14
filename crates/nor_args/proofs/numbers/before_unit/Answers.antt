use Rattle.nor_args.proofs.Units.{before_unit-stripped}
use Rattle.nor_args.proofs.numbers.before_unit.Goals as goal

pub returns : goal.returns
returns c = before_unit-stripped c.args.unit.now c.args.text.now c.strip_suffix.result c.strip_suffix.ensures.cases
