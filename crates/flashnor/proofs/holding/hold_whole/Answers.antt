use Rattle.std.proofs.Common.{arith}
use Rattle.flashnor.proofs.Holds.{missing_durable}
use Rattle.flashnor.proofs.Stays.{known_at_rest, rest_on}
use Rattle.nor_console.proofs.Lent.{stays_on}
use Rattle.flashnor.proofs.holding.hold_whole.Goals as goal

pub returns-in_err-read_held-in-Ok-true-clause-no_more :
    goal.returns-in_err-read_held-in-Ok-true-clause-no_more
returns-in_err-read_held-in-Ok-true-clause-no_more g c = λ rest name left can.
    let one = (c.in-Ok-true.ensures.holds rest.lawful).stay in
    let held = rest_on c.in-Ok-true.ensures.nature rest one in
    (one name).leaves left (c.in_err-read_held-in-Ok-true.ensures.no_more held name left can)

pub returns-in_ok-read_held-in-Ok-true-clause-held :
    goal.returns-in_ok-read_held-in-Ok-true-clause-held
returns-in_ok-read_held-in-Ok-true-clause-held g c = λ rest.
    let one = (c.in-Ok-true.ensures.holds rest.lawful).stay in
    let held = rest_on c.in-Ok-true.ensures.nature rest one in
    record {
      stay = λ name. stays_on (one name) (c.in_ok-read_held-in-Ok-true.ensures.stay name (known_at_rest held name));
      durable = rw c.in-Some.is (c.in_ok-read_held-in-Ok-true.ensures.held held);
    }

pub returns-in_ok-read_held-in-Ok-true-clause-no_more :
    goal.returns-in_ok-read_held-in-Ok-true-clause-no_more
returns-in_ok-read_held-in-Ok-true-clause-no_more g c = λ rest name.
    ((returns-in_ok-read_held-in-Ok-true-clause-held g c rest).stay name).leaves

pub returns-in_ok-read_held-in-Ok-true-clause-stay :
    goal.returns-in_ok-read_held-in-Ok-true-clause-stay
returns-in_ok-read_held-in-Ok-true-clause-stay g c = grind arith

pub returns-in-Ok-clause-stay : goal.returns-in-Ok-clause-stay
returns-in-Ok-clause-stay g c = grind arith

pub returns-in-Ok-clause-held : goal.returns-in-Ok-clause-held
returns-in-Ok-clause-held g c = λ rest.
    let holds = c.in-Ok-false.ensures.holds rest.lawful in
    let held = rest_on c.in-Ok-false.ensures.nature rest holds.stay in
    record {
      stay = λ name. stays_on (holds.stay name) (c.in-Ok.ensures.stay name (known_at_rest held name));
      durable = rw c.in-Some.is (missing_durable c.in-Ok-false.field-0-test (known_at_rest rest c.in-Some.name.now) holds
          (c.in-Ok.ensures.places (known_at_rest held c.in-Some.name.now)));
    }

pub returns-in-Ok-clause-no_more : goal.returns-in-Ok-clause-no_more
returns-in-Ok-clause-no_more g c = λ rest name. ((returns-in-Ok-clause-held g c rest).stay name).leaves

pub returns-in-Err-sync_folder-clause-no_more : goal.returns-in-Err-sync_folder-clause-no_more
returns-in-Err-sync_folder-clause-no_more g c = λ rest name.
    let one = (c.in-Ok-false.ensures.holds rest.lawful).stay in
    let held = rest_on c.in-Ok-false.ensures.nature rest one in
    (stays_on (one name) (c.in-Err-sync_folder.ensures.stay name (known_at_rest held name))).leaves

pub returns-in-Err-clause-no_more : goal.returns-in-Err-clause-no_more
returns-in-Err-clause-no_more g c = λ rest name. ((c.in-Err.ensures.holds rest.lawful).stay name).leaves

pub returns-in_err-read_held-in-Ok-true-clause-err :
    goal.returns-in_err-read_held-in-Ok-true-clause-err
returns-in_err-read_held-in-Ok-true-clause-err g c =
    grind (
      arith,
      c.from_residual.ensures,
      c.in_err-read_held-in-Ok-true.ensures.err,
      c.in-Some.is,
      c.in-Ok-true.ensures.nature,
    )
