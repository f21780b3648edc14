use Rattle.std.proofs.Common.{refl}
use Rattle.std.proofs.lemmas.Bool.{and_parts}
use Rattle.std.proofs.lemmas.Result.{on_err_weaker}
use Rattle.nor_buses.proofs.AfterRead.{stopped_after}
use Rattle.nor_buses.proofs.ReadsKeep.{step_of, stops_at, keeps_stops, on_err}
use Rattle.nor_buses.proofs.SameReply.{fits_again}
use Rattle.nor_buses.proofs.SomeChips.{fits_only}
use Rattle.nor_buses.proofs.known_status2.KnownStatus2.carry.Goals as goal

pub returns-in_err-find_out-clause-stops : goal.returns-in_err-find_out-clause-stops
returns-in_err-find_out-clause-stops g c fits =
    on_err c.from_residual.result (stops_at (c.in_err-find_out.ensures.stops (and_parts _ _ fits.honest).0))

pub returns-then-self-clause-stops : goal.returns-then-self-clause-stops
returns-then-self-clause-stops g c fits =
    let keeps = c.in_ok-find_out.ensures.keeps (and_parts _ _ fits.honest).0 in
    on_err_weaker c.transfer.result
    (λ stops. stopped_after c.find_out.ensures.nature.steady keeps stops.at_stop)
    (c.transfer.ensures.stops
    (fits_again c.args.out.now _ _ _ _ c.find_out.ensures.nature refl (fits_only _ _ fits)))

pub returns-then-not-self-clause-stops : goal.returns-then-not-self-clause-stops
returns-then-not-self-clause-stops g c fits =
    stops_at (keeps_stops (c.in_ok-find_out.ensures.keeps (and_parts _ _ fits.honest).0))

pub returns-clause-steps : goal.returns-clause-steps
returns-clause-steps g c fits =
    rw c.remember.ensures.bus (step_of (c.in_ok-transfer.ensures.carries (fits_only _ _ fits)))
