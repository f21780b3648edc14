use Rattle.std.proofs.Common.{inl, inr}
use Rattle.std.proofs.lemmas.Bool.{eqb-true, eq-eqb}
use Rattle.nor_model.proofs.LeastCodes.{protects-alike, alike-protects}
use Rattle.nor_model.proofs.guard.protects_exactly.Goals as goal

pub returns-else-range-len : goal.returns-else-range-len
returns-else-range-len c = (
  (λ same. absurd (c.if-range-len.false (eqb-true _ _ same))),
  (λ protects. eq-eqb _ _ (alike-protects _ _ _ _ _ _ c.addresses_of-range.ensures.protects protects).as_long),
)

pub returns-else-len-eq0 : goal.returns-else-len-eq0
returns-else-len-eq0 c = (
  (λ same. protects-alike _ _ _ _ _ _ c.addresses_of-range.ensures.protects
      record { as_long = c.if-range-len.true; alike = inr (eqb-true _ _ same) }),
  (λ protects. eq-eqb _ _ (elim (alike-protects _ _ _ _ _ _ c.addresses_of-range.ensures.protects protects).alike [
    | inl none ↦ absurd (c.if-len-eq0.false none)
    | inr same ↦ same
  ])),
)
