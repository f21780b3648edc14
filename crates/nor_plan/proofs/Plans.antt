-- The plan for two slices is also the plan (`IsPlan`) for two functions from positions to the bytes of these slices.
use Rattle.std.proofs.Common.{ℕ, ◌≡◌, ◌<◌, Bool, true, false, List, length, get_or, bit_and, sym, ap, ◌∙◌, arith}
use Rattle.std.specs.Prelude.{MatchBool}
use Rattle.nor_plan.specs.declared.plan.SectorPlan.{SectorPlan}
use Rattle.nor_plan.specs.Bytes.{AllAgree, SomeDiffer, NoneRises, SomeRise}
use Rattle.nor_plan.specs.Plan.{AreBytesOf, IsPlan}

pub MatchBool-map : (b : Bool) {P Q R S : Type 0} → (P → R) → (Q → S) → MatchBool b P Q → MatchBool b R S
MatchBool-map true f g h = f h
MatchBool-map false f g h = g h

pub plan_anywhere : (old target : List ℕ) (plan : SectorPlan) → length old ≡ length target → MatchBool plan.touched (SomeDiffer old target) (AllAgree old target) → MatchBool plan.raised (SomeRise old target) (NoneRises old target)
    → (plan.raised ≡ true → plan.touched ≡ true) → (content wanted : ℕ → ℕ) → AreBytesOf content old → AreBytesOf wanted target → IsPlan content wanted (length old) plan
plan_anywhere old target plan long touched raised needed content wanted old_is target_is =
    let there : (i : ℕ) → i < length old → get_or target i 0 ≡ wanted i = λ i within. target_is i (omega arith) in
    let bits : (i : ℕ) → i < length old → bit_and (get_or target i 0) (get_or old i 0) ≡ bit_and (wanted i) (content i) =
    λ i within. ap (λ w. bit_and w (get_or old i 0)) (there i within) ∙ ap (bit_and (wanted i)) (old_is i within) in
    record {
      touched = MatchBool-map plan.touched
          (λ some. (some.0, some.1, λ same. some.2 (old_is some.0 some.1 ∙ same ∙ sym (there some.0 some.1))))
          (λ agree i within. sym (old_is i within) ∙ agree i within ∙ there i within) touched;
      raised = MatchBool-map plan.raised
          (λ some. (some.0, some.1, λ inside. some.2 (bits some.0 some.1 ∙ inside ∙ sym (there some.0 some.1))))
          (λ none i within. sym (bits i within) ∙ none i within ∙ there i within) raised;
      needed = needed;
    }
