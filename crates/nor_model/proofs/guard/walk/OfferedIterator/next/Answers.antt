use Rattle.std.proofs.Common.{◌≡◌, inl, inr, arith, rules, sym, ap}
use Rattle.nor_model.specs.declared.guard.walk.Offered.{Offered}
use Rattle.std.proofs.lemmas.Bool.{cases_lt}
use Rattle.nor_model.proofs.guard.walk.OfferedIterator.next.Goals as goal

pub loop-code-preserved : goal.loop-code-preserved
loop-code-preserved c = record {
  same = c.loop-code.invariant.same;
  none = λ other start len from below least. elim (cases_lt other c.loop-code.code) [
    | inl before ↦ c.loop-code.invariant.none other start len from before least
    | inr later ↦
        let here : other ≡ c.loop-code.code = omega arith in
        let size = sym (ap (λ (walk : Offered). walk.size) c.loop-code.invariant.same) in
        c.in_default.ensures.none start len (rw (size, here) at least)
  ];
}

pub returns-clause-steps : goal.returns-clause-steps
returns-clause-steps c = record {
  none = λ code start len from least. c.loop-code.invariant.none code start len from
      (omega (arith, least.defined.six_bits)) least;
  ended = search rules;
  size = search rules;
}
