use Rattle.std.proofs.Common.{[], ◌∷◌, arith}
use Rattle.std.proofs.lemmas.List.{drop_more, length-append}
use Rattle.std.proofs.lemmas.Bool.Decides.{nat_tests}
use Rattle.std.proofs.lemmas.Grind.{common_steps}
use Rattle.nor_layout.specs.declared.ranges.Span.{Span}
use Rattle.nor_layout.proofs.Spans.{merged, merged_all}
use Rattle.nor_layout.proofs.ranges.with_span.Goals as goal

pub loop-span-preserved : goal.loop-span-preserved
unfolding merged
loop-span-preserved c =
    let now = c.loop-span in
    let d : Span = record { first = 0; last = 0 } in
    let next = rw (drop_more c.args.spans.now now.span-index d c.loop-span-test.true) at now.invariant.same in
    grind (arith, nat_tests, common_steps)

pub returns : goal.returns
returns c =
    let now = c.loop-span in
    let is = merged_all now.all.items now.last c.args.added c.args.spans.now now.span-index (omega arith)
    now.invariant.same c.requires.forward c.requires.apart in
    let room = length-append now.all.items (now.last ∷ []) in
    rw c.push-2.ensures.items (record { apart = is.0; union = is.1; room = omega (arith, room, now.invariant.few) })
