use Rattle.std.proofs.Common.{◌≡◌, ◌∙◌, true, false, rules}
use Rattle.std.specs.Prelude.{bytes_eq}
use Rattle.std.proofs.lemmas.Bool.{and_parts}
use Rattle.nor_buses.specs.Adapted.{is_missing, unanswered}
use Rattle.nor_buses.specs.Keeps.{KeepsAll}
use Rattle.nor_buses.specs.OtherMakers.{adapted_by, rows_of}
use Rattle.nor_buses.proofs.Adapted.{answered_not, still_busy, unique_busy, unique_reads}
use Rattle.nor_buses.proofs.ReadsKeep.{confirmed_stops, read_keeps, step_of, step_then, on_err}
use Rattle.nor_buses.proofs.SomeChips.{fits_only}
use Rattle.nor_buses.proofs.other_makers.OtherMakers.read_unique.Goals as goal

pub returns-in_err-transfer-clause-stops : goal.returns-in_err-transfer-clause-stops
returns-in_err-transfer-clause-stops g c fits =
    on_err c.from_residual.result (c.in_err-transfer.ensures.stops (fits_only _ _ fits)).at_stop

pub returns-then-not-is_missing-clause-steps : goal.returns-then-not-is_missing-clause-steps
returns-then-not-is_missing-clause-steps g c fits =
    step_of (c.in_ok-transfer.ensures.carries (fits_only _ _ fits))

pub returns-in_err-read_id-clause-stops : goal.returns-in_err-read_id-clause-stops
returns-in_err-read_id-clause-stops g c fits =
    on_err c.from_residual-in_err-read_id.result
    (confirmed_stops (unique_reads c.args.out.now c.requires) c.transfer.ensures.nature.steady
    (c.in_ok-transfer.ensures.carries (fits_only _ _ fits))
    (c.in_err-read_id.ensures.stops (c.transfer.ensures.nature.honest ∙ (and_parts _ _ fits.honest).0)))

pub returns-then-ne-clause-steps : goal.returns-then-ne-clause-steps
returns-then-ne-clause-steps g c fits =
    let old = g.B.Bus.state (adapted_by c.args.self.now) in
    let mid = g.B.Bus.state c.transfer.new.self in
    let carries = c.in_ok-transfer.ensures.carries (fits_only _ _ fits) in
    let keeps : KeepsAll old mid = read_keeps (unique_reads c.args.out.now c.requires) carries in
    let missing : is_missing c.transfer.new.reply ≡ true = search rules in
    let busy = unique_busy (rows_of c.args.self.now) c.args.out.now c.transfer.new.reply old.chip mid.chip c.requires
    missing (and_parts _ _ fits.honest).1 carries.step in
    let differs : bytes_eq c.in_ok-read_id.field-0 unanswered ≡ false = search rules in
    absurd (answered_not c.in_ok-read_id.field-0 differs
    (c.in_ok-read_id.ensures.id.busy (c.transfer.ensures.nature.honest ∙ (and_parts _ _ fits.honest).0)
    (still_busy keeps busy)))

pub returns-else-ne-clause-steps : goal.returns-else-ne-clause-steps
returns-else-ne-clause-steps g c fits =
    step_then (c.in_ok-transfer.ensures.carries (fits_only _ _ fits))
    (c.in_ok-read_id.ensures.keeps (c.transfer.ensures.nature.honest ∙ (and_parts _ _ fits.honest).0))
