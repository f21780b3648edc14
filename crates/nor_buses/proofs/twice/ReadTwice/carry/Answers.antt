use Rattle.std.proofs.Common.{◌∙◌, sym}
use Rattle.nor_buses.proofs.SameReply.{fits_again}
use Rattle.nor_buses.proofs.ReadsKeep.{stops_at, read_keeps, confirmed_stops, keeps_none, keeps_then, keeps_stops, on_err}
use Rattle.nor_buses.proofs.twice.ReadTwice.carry.Goals as goal

pub returns-then-reply-gt-LONGEST_READ-clause-stops : goal.returns-then-reply-gt-LONGEST_READ-clause-stops
returns-then-reply-gt-LONGEST_READ-clause-stops g c honest = stops_at (keeps_stops keeps_none)

pub returns-in_err-is_confirmed-clause-stops : goal.returns-in_err-is_confirmed-clause-stops
returns-in_err-is_confirmed-clause-stops g c honest =
    let reads = sym c.is_read.ensures ∙ c.if-not-is_read.false in
    let nature = c.transfer-2.ensures.nature in
    let again = fits_again c.args.out.now _ _ _ _ nature c.transfer-2.auto.reply honest in
    on_err c.from_residual-in_err-is_confirmed.result
    (confirmed_stops reads nature.steady (c.in_ok-transfer.ensures.carries honest)
    (c.in_err-is_confirmed.ensures.stopped again))

pub returns-then-not-branch-clause-stops : goal.returns-then-not-branch-clause-stops
returns-then-not-branch-clause-stops g c honest =
    let reads = sym c.is_read.ensures ∙ c.if-not-is_read.false in
    let nature = c.transfer-2.ensures.nature in
    let again = fits_again c.args.out.now _ _ _ _ nature c.transfer-2.auto.reply honest in
    stops_at (keeps_stops (keeps_then (read_keeps reads (c.in_ok-transfer.ensures.carries honest))
    (c.in_ok-is_confirmed.ensures.keeps again)))
