use Rattle.std.proofs.Common.{arith}
use Rattle.flashnor.proofs.Stays.{known_at_rest, known_stay_on}
use Rattle.flashnor.proofs.holding.read_held.Goals as goal

pub returns-in-Err-clause-no_more : goal.returns-in-Err-clause-no_more
returns-in-Err-clause-no_more g c = grind arith

pub returns-in-Ok-sync_folder-clause-stay : goal.returns-in-Ok-sync_folder-clause-stay
returns-in-Ok-sync_folder-clause-stay g c = grind arith

pub returns-in-Ok-sync_folder-clause-no_more : goal.returns-in-Ok-sync_folder-clause-no_more
returns-in-Ok-sync_folder-clause-no_more g c = λ rest any.
    (returns-in-Ok-sync_folder-clause-stay g c any (known_at_rest rest any)).leaves

pub returns-in-Err-sync_folder-clause-no_more : goal.returns-in-Err-sync_folder-clause-no_more
returns-in-Err-sync_folder-clause-no_more g c = λ rest any.
    (known_stay_on c.in-Ok.ensures.nature c.in-Ok.ensures.stay c.in-Err-sync_folder.ensures.stay any
    (known_at_rest rest any)).leaves
