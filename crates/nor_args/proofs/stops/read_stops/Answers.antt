use Rattle.std.proofs.Common.{◌∙◌, sym, arith}
use Rattle.std.proofs.lemmas.Grind.{common_steps}
use Rattle.std.proofs.lemmas.Iterator.Consumers.{YieldsList-turn, YieldsList-end}
use Rattle.std.proofs.lemmas.List.{length_push}
use Rattle.nor_args.specs.Text.{pieces_of}
use Rattle.nor_args.proofs.InTurn.{yields_pieces, ended}
use Rattle.nor_args.proofs.Listed.{stops_of-with, stops-added, stops-ended, stops-full, stops-refused}
use Rattle.nor_args.proofs.stops.read_stops.Goals as goal

pub returns-in_err-read_number : goal.returns-in_err-read_number
returns-in_err-read_number c =
    let pieces = yields_pieces c.args.text.now c.into_iter-number-iterator.ensures.into_iter_gives
    c.split-number-items.ensures.text c.split-number-items.ensures.has_more c.split-number-items.ensures.pattern in
    let turn = YieldsList-turn pieces _ _ c.loop-number.yielded_by _ _ _ c.in-Some.is c.next.ensures.steps in
    let refused = stops-refused c.loop-number.stops.items _ _ _ turn
    (sym c.read_number.ensures ∙ c.in_err-read_number.was) in
    rw c.from_residual.ensures (sym refused ∙ c.loop-number.invariant.3 ∙ stops_of-with c.args.text.now)

pub loop-number-preserved : goal.loop-number-preserved
loop-number-preserved c =
    let pieces = yields_pieces c.args.text.now c.into_iter-number-iterator.ensures.into_iter_gives
    c.split-number-items.ensures.text c.split-number-items.ensures.has_more c.split-number-items.ensures.pattern in
    let turn = YieldsList-turn pieces _ _ c.loop-number.yielded_by _ _ _ c.in-Some.is c.next.ensures.steps in
    let added = stops-added c.loop-number.stops.items _ _ _ turn _
    (sym c.read_number.ensures ∙ c.in_ok-read_number.was) in
    let longer = length_push c.loop-number.yielded c.in-Some.number in
    let longer2 = length_push c.loop-number.stops.items c.in_ok-read_number.field-0 in
    (tt, tt, grind (arith, common_steps), rw longer (sym (grind (arith, common_steps))))

pub returns-in_err-ok : goal.returns-in_err-ok
returns-in_err-ok c =
    let pieces = yields_pieces c.args.text.now c.into_iter-number-iterator.ensures.into_iter_gives
    c.split-number-items.ensures.text c.split-number-items.ensures.has_more c.split-number-items.ensures.pattern in
    let turn = YieldsList-turn pieces _ _ c.loop-number.yielded_by _ _ _ c.in-Some.is c.next.ensures.steps in
    let refused = stops-full c.loop-number.stops.items _ _ _ turn (grind (arith, common_steps)) in
    rw c.from_residual-in_err-ok.ensures (sym refused ∙ c.loop-number.invariant.3 ∙ stops_of-with c.args.text.now)

pub returns : goal.returns
returns c =
    let pieces = yields_pieces c.args.text.now c.into_iter-number-iterator.ensures.into_iter_gives
    c.split-number-items.ensures.text c.split-number-items.ensures.has_more c.split-number-items.ensures.pattern in
    let end = YieldsList-end pieces _ _ c.loop-number.yielded_by _ _ c.in-None.is c.next.ensures.steps in
    sym (stops-ended c.loop-number.stops.items c.loop-number.invariant.2)
    ∙ rw (ended (pieces_of c.args.text.now) _ end.1) at c.loop-number.invariant.3 ∙ stops_of-with c.args.text.now
