use Rattle.flashnor.proofs.Undone.{leaves_original, restorable_after}
use Rattle.flashnor.proofs.laws.runs_restore_original.Goals as goal

pub returns-clause-restorable : goal.returns-clause-restorable
returns-clause-restorable g c = search (restorable_after, g.met.R.Store.seen_may_stay)

pub returns-clause-ends : goal.returns-clause-ends
returns-clause-ends g c = search (leaves_original, g.met.R.Store.seen_may_stay)
