use Rattle.std.proofs.Common.{◌≡◌, true, refl, rules}
use Rattle.std.proofs.lemmas.Bool.{and_parts}
use Rattle.std.proofs.lemmas.Result.{on_err_weaker}
use Rattle.nor_buses.specs.Adapted.{has_no_row}
use Rattle.nor_buses.specs.OtherMakers.{adapted_by, rows_of}
use Rattle.nor_buses.proofs.Adapted.{absurd_row}
use Rattle.nor_buses.proofs.AfterRead.{stopped_after}
use Rattle.nor_buses.proofs.ReadsKeep.{stops_at, on_err}
use Rattle.nor_buses.proofs.SameReply.{fits_again}
use Rattle.nor_buses.proofs.SomeChips.{fits_only}
use Rattle.nor_buses.proofs.other_makers.OtherMakers.read_table.Goals as goal

pub returns-in_err-id-clause-stops : goal.returns-in_err-id-clause-stops
returns-in_err-id-clause-stops g c fits =
    on_err c.from_residual.result (stops_at (c.in_err-id.ensures.stops (and_parts _ _ fits.honest).0))

pub returns-then-not-has_no_row-clause-stops : goal.returns-then-not-has_no_row-clause-stops
returns-then-not-has_no_row-clause-stops g c fits =
    let keeps = c.in_ok-id.ensures.keeps (and_parts _ _ fits.honest).0 in
    on_err_weaker c.transfer.result
    (λ stops. stopped_after c.read_id.ensures.nature.steady keeps stops.at_stop)
    (c.transfer.ensures.stops
    (fits_again c.args.out.now _ _ _ _ c.read_id.ensures.nature refl (fits_only _ _ fits)))

pub returns-then-self-2-clause-steps : goal.returns-then-self-2-clause-steps
returns-then-self-2-clause-steps g c fits =
    let none : has_no_row (rows_of c.args.self.now) c.in_ok-id.id ≡ true = search rules in
    absurd (absurd_row (rows_of c.args.self.now) c.in_ok-id.id (g.B.Bus.state (adapted_by c.args.self.now))
    (and_parts _ _ fits.honest).0 (and_parts _ _ fits.honest).1 c.in_ok-id.ensures.id none)

pub returns-then-self-2-clause-stops : goal.returns-then-self-2-clause-stops
returns-then-self-2-clause-stops g c fits =
    let none : has_no_row (rows_of c.args.self.now) c.in_ok-id.id ≡ true = search rules in
    absurd (absurd_row (rows_of c.args.self.now) c.in_ok-id.id (g.B.Bus.state (adapted_by c.args.self.now))
    (and_parts _ _ fits.honest).0 (and_parts _ _ fits.honest).1 c.in_ok-id.ensures.id none)

pub returns-clause-steps : goal.returns-clause-steps
returns-clause-steps g c fits =
    let none : has_no_row (rows_of c.args.self.now) c.in_ok-id.id ≡ true = search rules in
    absurd (absurd_row (rows_of c.args.self.now) c.in_ok-id.id (g.B.Bus.state (adapted_by c.args.self.now))
    (and_parts _ _ fits.honest).0 (and_parts _ _ fits.honest).1 c.in_ok-id.ensures.id none)
