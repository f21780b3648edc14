-- Lemmas: over a well-behaved bus, a `KeptQuad` never hides bit 6 of a chip with an ID of `rows`.
use Rattle.std.proofs.Common.{◌≡◌, ◌∙◌, ◌⊎◌, ℕ, Bool, true, false, List, [], ◌∷◌, length, refl, sym, ap, subst, inl, inr, arith}
use Rattle.std.specs.Prelude.{◌%◌, slice_index}
use Rattle.std.proofs.lemmas.Bool.{false≢true, eqb-true}
use Rattle.nor_model.specs.Chip.{Chip}
use Rattle.nor_model.specs.History.{begins_with}
use Rattle.nor_model.specs.Step.{Step}
use Rattle.nor_model.specs.declared.config.Config.{Config}
use Rattle.nor_model.specs.Bus.{BusState, SameNature}
use Rattle.nor_buses.specs.SomeChips.{chip_id}
use Rattle.nor_buses.specs.Listed.{is_id_listed}
use Rattle.nor_buses.specs.Bit6.{keeps_bit6, IsPlain}
use Rattle.nor_buses.specs.Keeps.{KeepsAll, MakesStep}
use Rattle.nor_buses.proofs.Polls.{poll_keeps, ready_shown}
use Rattle.nor_buses.proofs.SomeChips.{id_if_idle}

pub plain_still : (rows : List (List ℕ)) (hides has_quad is_judged : Bool) (old new : BusState)
    → IsPlain rows hides has_quad is_judged old → SameNature old new → IsPlain rows hides has_quad is_judged new
plain_still rows hides has_quad is_judged old new plain nature = record {
  shown = plain.shown;
  none = λ honest keeps.
      let was : old.honest ≡ true = sym nature.honest ∙ honest in
      plain.none was (subst (λ (config : Config). keeps_bit6 rows hides config ≡ true) (nature.config was) keeps);
}

listed_by : (rows : List (List ℕ)) (hides : Bool) (config : Config) → (hides ≡ false → true ≡ false)
    → keeps_bit6 rows hides config ≡ true → is_id_listed rows (chip_id config) ≡ true
listed_by rows true config looked keeps = keeps
listed_by rows false config looked keeps = absurd (false≢true (sym (looked refl)))

pub plain_judged : (rows : List (List ℕ)) (hides has_quad is_judged is : Bool) (old new : BusState)
    → IsPlain rows hides has_quad is_judged old → is_judged ≡ false → SameNature old new
    → (old.honest ≡ true → is_id_listed rows (chip_id old.chip.config) ≡ true → is ≡ false)
    → IsPlain rows hides is true new
plain_judged rows hides has_quad is_judged is old new plain unjudged nature none = record {
  shown = λ shown. refl;
  none = λ honest keeps.
      let was : old.honest ≡ true = sym nature.honest ∙ honest in
      let before : keeps_bit6 rows hides old.chip.config ≡ true =
      subst (λ (config : Config). keeps_bit6 rows hides config ≡ true) (nature.config was) keeps in
      none was (listed_by rows hides old.chip.config (λ shown. sym (plain.shown shown) ∙ unjudged) before);
}

pub bit6_same : {rows rows' : List (List ℕ)} {hides hides' : Bool} {config config' : Config} → rows' ≡ rows
    → hides' ≡ hides → config' ≡ config → keeps_bit6 rows' hides' config' ≡ keeps_bit6 rows hides config
bit6_same rows hides config = λ i. keeps_bit6 (rows i) (hides i) (config i)

pub plain_listed : (rows : List (List ℕ)) (hides : Bool) (config : Config) → keeps_bit6 rows hides config ≡ true
    → (hides ≡ false) ⊎ (is_id_listed rows (chip_id config) ≡ true)
plain_listed rows true config keeps = inr keeps
plain_listed rows false config keeps = inl refl

idle_id : (reply : List ℕ) {old new : Chip} → length reply ≡ 3 → old.busy ≡ 0 → Step old (0x9F ∷ []) reply new
    → reply ≡ chip_id old.config
idle_id [] three idle step = absurd (omega (arith, three))
idle_id (a ∷ []) three idle step = absurd (omega (arith, three))
idle_id (a ∷ b ∷ []) three idle step = absurd (omega (arith, three))
idle_id (a ∷ b ∷ c ∷ []) three idle step = id_if_idle idle step
idle_id (a ∷ b ∷ c ∷ d ∷ rest) three idle step = absurd (omega (arith, three))

pub not_missed : (rows : List (List ℕ)) (reply : List ℕ) {old new : Chip} → length reply ≡ 3 → old.busy ≡ 0
    → Step old (0x9F ∷ []) reply new → is_id_listed rows (chip_id old.config) ≡ true
    → is_id_listed rows reply ≡ false → ⊥
not_missed rows reply {old} three idle step listed missed =
    false≢true (sym missed ∙ ap (λ (id : List ℕ). is_id_listed rows id) (idle_id reply three idle step) ∙ listed)

pub polled_kept : (out reply : List ℕ) {old new : BusState} → begins_with 0x05 out ≡ true → length out ≡ 1
    → length reply ≡ 1 → slice_index reply 0 % 2 ≡ 0 → MakesStep out reply old new → KeepsAll old new
polled_kept [] reply begins one single even made = absurd (false≢true begins)
polled_kept (opcode ∷ []) [] begins one single even made = absurd (omega (arith, single))
polled_kept (opcode ∷ []) (status ∷ []) {old} {new} begins one single even made =
    let polled : MakesStep (0x05 ∷ []) (status ∷ []) old new =
    subst (λ (n : ℕ). MakesStep (n ∷ []) (status ∷ []) old new) (eqb-true opcode 0x05 begins) made in
    poll_keeps (ready_shown polled even) polled
polled_kept (opcode ∷ []) (status ∷ next ∷ rest) begins one single even made = absurd (omega (arith, single))
polled_kept (opcode ∷ x ∷ rest) reply begins one single even made = absurd (omega (arith, one))
