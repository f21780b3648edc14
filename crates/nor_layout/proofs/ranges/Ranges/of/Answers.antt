use Rattle.std.proofs.Common.{◌+◌, sym, ◌∙◌, inr, arith}
use Rattle.std.proofs.lemmas.Bool.Decides.{nat_tests}
use Rattle.nor_layout.proofs.Sweeps.{none_has}
use Rattle.nor_layout.proofs.ranges.Ranges.of.Goals as goal

pub returns-then-len-gt-REGIONS : goal.returns-then-len-gt-REGIONS
returns-then-len-gt-REGIONS c =
    let next = c.in-Some.next in
    let is = c.in-Some.ensures in
    let union = rw c.deref.ensures.0 at c.with_span-all.ensures.union in
    inr (none_has c.args.spans.now c.with_span-all.result.items (next.last + 1) c.with_span-all.ensures.apart
    (omega (arith, c.if-len-gt-REGIONS.true, c.len.ensures.value))
    (λ a. grind (arith, nat_tests, union a, c.loop-next.invariant.same a, is.reaches, is.taken a, is.least a)))

pub returns : goal.returns
returns c = (
  sym c.has_backwards.ensures ∙ c.if-has_backwards.false,
  record {
    ranges = record { few = c.loop-next.invariant.few; apart = c.loop-next.invariant.apart };
    same = λ a. grind (arith, nat_tests, c.loop-next.invariant.same a, c.in_default.ensures a);
  },
)
