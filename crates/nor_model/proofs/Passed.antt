-- One more transaction keeps `ArePassedOn`.
use Rattle.std.proofs.Common.{◌≡◌, ◌∙◌, ◌∷◌, ℕ, Bool, true, false, List, [], refl, sym, ap, subst, inl, inr}
use Rattle.std.specs.Prelude.{if◌then◌else◌}
use Rattle.std.proofs.lemmas.Bool.{cases_Bool, eqb-true, false≢true}
use Rattle.nor_model.specs.Command.{begins_quiet}
use Rattle.nor_model.specs.Sent.{Sent, begins_program, with_sent}
use Rattle.nor_model.specs.Passed.{ArePassedOn, Passes}

quiet_program : (out : List ℕ) → begins_program out ≡ true → begins_quiet out ≡ false
quiet_program [] program = absurd (false≢true program)
quiet_program (opcode ∷ rest) program = subst (λ (o : ℕ). begins_quiet (o ∷ rest) ≡ false) (sym (eqb-true opcode 0x02
    program)) refl

-- A transaction that only reads passes on nothing that may modify a chip.
pub quiet_passes : (out : List ℕ) (old new : Sent) → begins_quiet out ≡ true → Passes out old new → new ≡ old
quiet_passes out old new quiet passes = elim passes [
  | inl same ↦ same
  | inr rest ↦ elim rest [
    | inl sent ↦ sent ∙ ap (λ (b : Bool). if b then old else out ∷ old) quiet
    | inr parts ↦ absurd (false≢true (sym (quiet_program out parts.program) ∙ quiet))
  ]
]

pub passed_after : (out : List ℕ) (sent sent' passed passed' : Sent) → sent' ≡ with_sent out sent
    → Passes out passed passed' → ArePassedOn sent passed → ArePassedOn sent' passed'
passed_after out sent sent' passed passed' is passes was = elim (cases_Bool (begins_quiet out)) [
  | inl quiet ↦
      let same : sent' ≡ sent = is ∙ ap (λ (b : Bool). if b then sent else out ∷ sent) quiet in
      let P : Sent → Type 0 = λ s. ArePassedOn s passed' in
      subst P (sym same) (subst (λ (p : Sent). ArePassedOn sent p) (sym (quiet_passes out passed passed' quiet passes))
      was)
  | inr stirs ↦
      let more : sent' ≡ out ∷ sent = is ∙ ap (λ (b : Bool). if b then sent else out ∷ sent) stirs in
      let P : Sent → Type 0 = λ s. ArePassedOn s passed' in
      subst P (sym more) (record { before = passed; earlier = was; passes = passes })
]
