-- Lemmas on buses that are well-behaved only for some chips (`only_if`), and on the reply to a read of the ID.
use Rattle.std.proofs.Common.{◌≡◌, ◌&&◌, ◌∙◌, ℕ, Bool, true, false, List, [], ◌∷◌, length, refl, ap, subst, inl, inr, ◌⊎◌, arith}
use Rattle.std.specs.Prelude.{◌==◌, Result, OnOk, OnErr}
use Rattle.std.proofs.lemmas.Bool.{and_parts}
use Rattle.std.proofs.lemmas.Result.{on_ok_weaker, on_err_weaker}
use Rattle.nor_model.specs.Exchange.{Exchange}
use Rattle.nor_model.specs.Chip.{Chip}
use Rattle.nor_model.specs.Bus.{BusState, SameNature, IsHonestFor, AtStop, Records, Transfers}
use Rattle.nor_model.specs.Step.{Step, Does}
use Rattle.nor_model.specs.declared.command.Command.TheVariants.{ReadId}
use Rattle.nor_model.specs.declared.bus.Stopped.{Stopped}
use Rattle.nor_buses.specs.Keeps.{MakesStep}
use Rattle.nor_buses.specs.ReadsAs.{beside}
use Rattle.nor_buses.specs.SomeChips.{chip_id, only_if}
use Rattle.nor_buses.proofs.Around.{transfers_beside}
use Rattle.nor_buses.proofs.SameReply.{read_of}

pub fits_only : {out : List ℕ} {n : ℕ} (fits : Bool) (inside : BusState) → IsHonestFor out n (only_if fits inside)
    → IsHonestFor out n inside
fits_only fits inside is = record { honest = (and_parts inside.honest fits is.honest).0; fits = is.fits }

and_same : (a b fits fits' : Bool) → b ≡ a → (a ≡ true → fits' ≡ fits) → (b && fits') ≡ (a && fits)
and_same true b fits fits' is same = ap (λ (x : Bool). x && fits') is ∙ same refl
and_same false b fits fits' is same = ap (λ (x : Bool). x && fits') is

nature_only : {fits fits' : Bool} {a b : BusState} → SameNature a b → (a.honest ≡ true → fits' ≡ fits)
    → SameNature (only_if fits a) (only_if fits' b)
nature_only {fits} {fits'} {a} {b} nature same = record {
  honest = and_same a.honest b.honest fits fits' nature.honest same;
  steady = nature.steady;
  unlimited = nature.unlimited;
  longer = nature.longer;
  punctual = nature.punctual;
  further = nature.further;
  config = λ honest. nature.config (and_parts a.honest fits honest).0;
}

stops_only : {out : List ℕ} (fits fits' : Bool) (a b : BusState) → AtStop out a b
    → AtStop out (only_if fits a) (only_if fits' b)
stops_only fits fits' a b at = record {
  count = at.count;
  read = at.read;
  reached = at.reached;
  step = at.step;
  chip = at.chip;
  worn = at.worn;
  none = at.none;
  unsent = at.unsent;
}

steps_only : {out answer : List ℕ} (fits fits' : Bool) (a b : BusState) → MakesStep out answer a b
    → MakesStep out answer (only_if fits a) (only_if fits' b)
steps_only fits fits' a b made = record { step = made.step; worn = made.worn }

pub transfers_only : {out before answer : List ℕ} {a b : BusState} {fits fits' : Bool} {h h' : List Exchange}
    (outcome : Result Unit Stopped) → SameNature a b → (a.honest ≡ true → fits' ≡ fits)
    → (IsHonestFor out (length before) (only_if fits a) → OnErr outcome (AtStop out a b))
    → (IsHonestFor out (length before) (only_if fits a) → OnOk outcome (MakesStep out answer a b))
    → Records out answer outcome (beside (only_if fits a) h) (beside (only_if fits' b) h')
    → Transfers out before answer outcome (beside (only_if fits a) h) (beside (only_if fits' b) h')
transfers_only {out} {before} {answer} {a} {b} {fits} {fits'} {h} {h'} outcome nature same stops steps records =
    transfers_beside {out = out} {a = only_if fits a} {b = only_if fits' b} {h = h} {h' = h'} {before = before}
    {answer = answer} outcome (nature_only nature same)
    (λ is. on_err_weaker outcome (stops_only fits fits' a b) (stops is))
    (λ is. on_ok_weaker outcome (steps_only fits fits' a b) (steps is))
    records

three : {a b c x y z : ℕ} → a ≡ x → b ≡ y → c ≡ z → (a ∷ b ∷ c ∷ []) ≡ (x ∷ y ∷ z ∷ [])
three p q r = λ i. p i ∷ q i ∷ r i ∷ []

id_by : (idle : Bool) {old new : Chip} {a b c : ℕ} → Does (read_of idle ReadId) [] old (a ∷ b ∷ c ∷ []) new
    → ((a ∷ b ∷ c ∷ []) ≡ chip_id old.config) ⊎ ((a ∷ b ∷ c ∷ []) ≡ (255 ∷ 255 ∷ 255 ∷ []))
id_by true does =
    inl (three (does.replies 0 (omega arith)) (does.replies 1 (omega arith)) (does.replies 2 (omega arith)))
id_by false does =
    inr (three (does.replies 0 (omega arith)) (does.replies 1 (omega arith)) (does.replies 2 (omega arith)))

pub id_replied : {old new : Chip} {a b c : ℕ} → Step old (0x9F ∷ []) (a ∷ b ∷ c ∷ []) new
    → ((a ∷ b ∷ c ∷ []) ≡ chip_id old.config) ⊎ ((a ∷ b ∷ c ∷ []) ≡ (255 ∷ 255 ∷ 255 ∷ []))
id_replied {old} {new} {a} {b} {c} step = id_by (old.busy == 0) step

pub id_if_idle : {old new : Chip} {a b c : ℕ} → old.busy ≡ 0 → Step old (0x9F ∷ []) (a ∷ b ∷ c ∷ []) new
    → (a ∷ b ∷ c ∷ []) ≡ chip_id old.config
id_if_idle {old} {new} {a} {b} {c} idle step =
    let does : Does (read_of true ReadId) [] old (a ∷ b ∷ c ∷ []) new =
    subst (λ (is : Bool). Does (read_of is ReadId) [] old (a ∷ b ∷ c ∷ []) new) (ap (λ (n : ℕ). n == 0) idle) step in
    three (does.replies 0 (omega arith)) (does.replies 1 (omega arith)) (does.replies 2 (omega arith))
