use Rattle.std.proofs.Common.{◌*◌}
use Rattle.std.proofs.lemmas.List.{take_rest, drop-drop}
use Rattle.nor_journal.proofs.records.record_at.Goals as goal

pub returns : goal.returns
returns c = rw (c.number_of.ensures, take_rest c.args.records.now (4100 * c.args.i), drop-drop 4 (4100 * c.args.i) c.args.records.now)
