use Rattle.std.proofs.Common.{[], Some, refl, rules}
use Rattle.nor_journal.proofs.head.read_head.Goals as goal

pub read_form-requires-then-eq-2 : goal.read_form-requires-then-eq-2
read_form-requires-then-eq-2 c = (Some [], search rules, refl)
