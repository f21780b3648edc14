-- Lemmas: a bus that may carry out one transaction with several transactions of the bus inside meets the contract of a
-- bus (`Transfers`).
use Rattle.std.proofs.Common.{◌≡◌, ◌≤◌, ◌&&◌, ◌||◌, ◌⊎◌, ℕ, Bool, true, false, List, length, ◌∙◌, arith, inl, inr, refl, sym, ap, subst}
use Rattle.std.specs.Prelude.{◌+◌, ◌-◌, nat_le, Result, OnOk, OnErr}
use Rattle.std.proofs.Math.Nat.{min-le_left, min-le_right}
use Rattle.std.proofs.Math.Seq.{take-length}
use Rattle.std.proofs.lemmas.Bool.{false≢true, and_parts, leb-true}
use Rattle.std.proofs.lemmas.Result.{on_ok_weaker, on_err_weaker}
use Rattle.nor_model.specs.Exchange.{Exchange}
use Rattle.nor_model.specs.Bus.{BusState, SameNature, IsHonestFor, AtStop, Stops, Carries, Records, Transfers}
use Rattle.nor_model.specs.declared.bus.Stopped.{Stopped}
use Rattle.nor_model.specs.Step.{Step, done_of, wears}
use Rattle.nor_buses.specs.ReadsAs.{around, beside}
use Rattle.nor_buses.specs.Keeps.{MakesStep, StopsUnread}
use Rattle.nor_buses.specs.Watched.{unsteady}
use Rattle.nor_buses.specs.Splitting.{reads_longer, splits, takes_whole}

fits_inside : {out : List ℕ} {n : ℕ} {inside : BusState} {history : List Exchange}
    → IsHonestFor out n (around inside history) → IsHonestFor out n inside
fits_inside fits = record { honest = fits.honest; fits = fits.fits }

nature_around : {old new : BusState} {history history' : List Exchange} → SameNature old new
    → SameNature (around old history) (around new history')
nature_around nature = record {
  honest = nature.honest;
  steady = nature.steady;
  unlimited = nature.unlimited;
  longer = nature.longer;
  punctual = refl;
  further = nature.further;
  config = nature.config;
}

module _ {out : List ℕ} {a b : BusState} {h h' : List Exchange} where
  stops_around : AtStop out a b → Stops out (around a h) (around b h')
  stops_around at = record {
    none_left = λ punctual. absurd (false≢true punctual);
    left = λ punctual. absurd (false≢true punctual);
    at_stop = record {
      count = at.count;
      read = at.read;
      reached = at.reached;
      step = at.step;
      chip = at.chip;
      worn = at.worn;
      none = at.none;
      unsent = at.unsent;
    };
  }

  carries_around : {answer : List ℕ} → MakesStep out answer a b → Carries out answer (around a h) (around b h')
  carries_around made = record {
    left = λ punctual. absurd (false≢true punctual);
    step = made.step;
    worn = made.worn;
  }

  pub transfers_around : {before answer : List ℕ} (outcome : Result Unit Stopped) → SameNature a b
      → (IsHonestFor out (length before) a → OnErr outcome (AtStop out a b))
      → (IsHonestFor out (length before) a → OnOk outcome (MakesStep out answer a b))
      → Records out answer outcome (around a h) (around b h')
      → Transfers out before answer outcome (around a h) (around b h')
  transfers_around outcome nature stops steps records = record {
    nature = nature_around nature;
    stops = λ fits. on_err_weaker outcome stops_around (stops (fits_inside fits));
    unread = λ fits punctual. absurd (false≢true punctual);
    carries = λ fits. on_ok_weaker outcome carries_around (steps (fits_inside fits));
    records = records;
  }

beside_fits : {out : List ℕ} {n : ℕ} {inside : BusState} {history : List Exchange}
    → IsHonestFor out n (beside inside history) → IsHonestFor out n inside
beside_fits fits = record { honest = fits.honest; fits = fits.fits }

module _ {out : List ℕ} {a b : BusState} {h h' : List Exchange} where
  stops_beside : AtStop out a b → Stops out (beside a h) (beside b h')
  stops_beside at = record {
    none_left = λ punctual. absurd (false≢true punctual);
    left = λ punctual. absurd (false≢true punctual);
    at_stop = record {
      count = at.count;
      read = at.read;
      reached = at.reached;
      step = at.step;
      chip = at.chip;
      worn = at.worn;
      none = at.none;
      unsent = at.unsent;
    };
  }

  carries_beside : {answer : List ℕ} → MakesStep out answer a b → Carries out answer (beside a h) (beside b h')
  carries_beside made = record {
    left = λ punctual. absurd (false≢true punctual);
    step = made.step;
    worn = made.worn;
  }

  pub transfers_beside : {before answer : List ℕ} (outcome : Result Unit Stopped) → SameNature a b
      → (IsHonestFor out (length before) a → OnErr outcome (AtStop out a b))
      → (IsHonestFor out (length before) a → OnOk outcome (MakesStep out answer a b))
      → Records out answer outcome (beside a h) (beside b h')
      → Transfers out before answer outcome (beside a h) (beside b h')
  transfers_beside outcome nature stops steps records = record {
    nature = record {
      honest = nature.honest;
      steady = nature.steady;
      unlimited = nature.unlimited;
      longer = nature.longer;
      punctual = refl;
      further = nature.further;
      config = nature.config;
    };
    stops = λ fits. on_err_weaker outcome stops_beside (stops (beside_fits fits));
    unread = λ fits punctual. absurd (false≢true punctual);
    carries = λ fits. on_ok_weaker outcome carries_beside (steps (beside_fits fits));
    records = records;
  }

fits_unsteady : {out : List ℕ} {n : ℕ} {inside : BusState} → IsHonestFor out n (unsteady inside)
    → IsHonestFor out n inside
fits_unsteady fits = record { honest = fits.honest; fits = fits.fits }

pub stops_unsteady : {out : List ℕ} {old new : BusState} → AtStop out old new
    → AtStop out (unsteady old) (unsteady new)
stops_unsteady at = record {
  count = at.count;
  read = at.read;
  reached = at.reached;
  step = at.step;
  chip = at.chip;
  worn = at.worn;
  none = λ steady. absurd (false≢true steady);
  unsent = λ steady. absurd (false≢true steady);
}

steps_unsteady : {out answer : List ℕ} {old new : BusState} → MakesStep out answer old new
    → MakesStep out answer (unsteady old) (unsteady new)
steps_unsteady made = record { step = made.step; worn = made.worn }

-- If a bus carried out the transaction `out`, and then stopped at another transaction and left the chip as it was or
-- without power, this counts as a stop after the last byte of `out` (on a bus that isn't steady).
pub stops_behind : {out answer : List ℕ} {old mid new : BusState} → Carries out answer old mid → StopsUnread mid new
    → AtStop out (unsteady old) (unsteady new)
stops_behind {out} {answer} {old} {mid} {new} carries stops = record {
  count = length out;
  read = answer;
  reached = mid.chip;
  step = subst (λ (sent : List ℕ). Step old.chip sent answer mid.chip) (sym (take-length out)) carries.step;
  chip = stops.chip;
  worn = λ s. subst (λ (sent : List ℕ). new.worn s ≡ (old.worn s || wears (done_of old.chip sent (length answer)) s))
      (sym (take-length out)) (stops.worn s ∙ carries.worn s);
  none = λ steady. absurd (false≢true steady);
  unsent = λ steady. absurd (false≢true steady);
}

pub transfers_unsteady : {out before answer : List ℕ} {a b : BusState} {h h' : List Exchange}
    (outcome : Result Unit Stopped) → SameNature a b
    → (IsHonestFor out (length before) a → OnErr outcome (AtStop out (unsteady a) (unsteady b)))
    → (IsHonestFor out (length before) a → OnOk outcome (MakesStep out answer a b))
    → Records out answer outcome (beside (unsteady a) h) (beside (unsteady b) h')
    → Transfers out before answer outcome (beside (unsteady a) h) (beside (unsteady b) h')
transfers_unsteady {out} {before} {answer} {a} {b} {h} {h'} outcome nature stops steps records =
    transfers_beside {out = out} {a = unsteady a} {b = unsteady b} {h = h} {h' = h'} {before = before} {answer = answer}
    outcome
    (record {
      honest = nature.honest;
      steady = refl;
      unlimited = nature.unlimited;
      longer = nature.longer;
      punctual = nature.punctual;
      further = nature.further;
      config = nature.config;
    })
    (λ fits. stops (fits_unsteady {inside = a} fits))
    (λ fits. on_ok_weaker outcome (steps_unsteady {old = a} {new = b}) (steps (fits_unsteady {inside = a} fits)))
    records

longer_taken : (receives longer n : ℕ) (unlimited : Bool) → n ≤ 4096 + reads_longer receives unlimited longer
    → (unlimited ≡ true) ⊎ (n ≤ 4096 + longer)
longer_taken receives longer n true few = inl refl
longer_taken receives longer n false few = inr (omega (arith, few, min-le_left longer (receives - 4096)))

longer_within : (receives longer n : ℕ) (unlimited : Bool) → 4096 ≤ receives
    → n ≤ 4096 + reads_longer receives unlimited longer → n ≤ receives
longer_within receives longer n true most few = omega (arith, most, few)
longer_within receives longer n false most few = omega (arith, most, few, min-le_right longer (receives - 4096))

module _ (out : List ℕ) (n : ℕ) (wide : Bool) (receives : ℕ) (inside : BusState) (history : List Exchange) where
  splits_fits : IsHonestFor out n (splits wide receives inside history) → IsHonestFor out n inside
  splits_fits fits = record {
    honest = (and_parts inside.honest wide fits.honest).0;
    fits = elim fits.fits [
      | inl unlimited ↦ absurd (false≢true unlimited)
      | inr few ↦ elim (longer_taken receives inside.longer n inside.unlimited few.1) [
        | inl unlimited ↦ inl unlimited
        | inr read ↦ inr (few.0, read)
      ]
    ];
  }

  splits_within : (sends : ℕ) → takes_whole sends receives ≡ wide
      → IsHonestFor out n (splits wide receives inside history) → (length out ≤ sends) × (n ≤ receives)
  splits_within sends is fits =
      let takes = and_parts (nat_le 260 sends) (nat_le 4096 receives)
      (is ∙ (and_parts inside.honest wide fits.honest).1) in
      let most_sent : 260 ≤ sends = leb-true 260 sends takes.0 in
      let most_read : 4096 ≤ receives = leb-true 4096 receives takes.1 in
      elim fits.fits [
        | inl unlimited ↦ absurd (false≢true unlimited)
        | inr few ↦ (
          omega (arith, few.0, most_sent),
          longer_within receives inside.longer n inside.unlimited most_read few.1,
        )
      ]

module _ (out : List ℕ) (a b : BusState) (h h' : List Exchange) (wide wide' : Bool) (receives receives' : ℕ) where
  stops_splits : Stops out a b → Stops out (splits wide receives a h) (splits wide' receives' b h')
  stops_splits stops =
      let at = stops.at_stop in record {
        none_left = stops.none_left;
        left = stops.left;
        at_stop = record {
          count = at.count;
          read = at.read;
          reached = at.reached;
          step = at.step;
          chip = at.chip;
          worn = at.worn;
          none = at.none;
          unsent = at.unsent;
        };
      }

  carries_splits : {answer : List ℕ} → Carries out answer a b
      → Carries out answer (splits wide receives a h) (splits wide' receives' b h')
  carries_splits carries = record { left = carries.left; step = carries.step; worn = carries.worn }

longer_same : (receives receives' : ℕ) (old new : BusState) → receives' ≡ receives → SameNature old new
    → reads_longer receives' new.unlimited new.longer ≡ reads_longer receives old.unlimited old.longer
longer_same receives receives' old new same nature =
    ap (λ (n : ℕ). reads_longer n new.unlimited new.longer) same
    ∙ ap (λ (unlimited : Bool). reads_longer receives unlimited new.longer) nature.unlimited
    ∙ ap (λ (longer : ℕ). reads_longer receives old.unlimited longer) nature.longer

pub transfers_splits : (out before answer : List ℕ) (a b : BusState) (h h' : List Exchange) (wide wide' : Bool)
    (sends receives receives' : ℕ) → takes_whole sends receives ≡ wide → wide' ≡ wide → receives' ≡ receives
    → (outcome : Result Unit Stopped) → SameNature a b
    → (length out ≤ sends → length before ≤ receives → Transfers out before answer outcome a b)
    → Records out answer outcome (splits wide receives a h) (splits wide' receives' b h')
    → Transfers out before answer outcome (splits wide receives a h) (splits wide' receives' b h')
transfers_splits out before answer a b h h' wide wide' sends receives receives' is same kept outcome nature passes records =
    let inside : IsHonestFor out (length before) (splits wide receives a h) → Transfers out before answer outcome a b =
    λ fits. let within = splits_within out (length before) wide receives a h sends is fits in passes within.0 within.1 in
    let fit = splits_fits out (length before) wide receives a h in record {
      nature = record {
        honest = ap (λ (honest : Bool). honest && wide') nature.honest
            ∙ ap (λ (wide : Bool). a.honest && wide) same;
        steady = nature.steady;
        unlimited = refl;
        longer = longer_same receives receives' a b kept nature;
        punctual = nature.punctual;
        further = nature.further;
        config = λ honest. nature.config (and_parts a.honest wide honest).0;
      };
      stops = λ fits.
          on_err_weaker outcome (stops_splits out a b h h' wide wide' receives receives')
          ((inside fits).stops (fit fits));
      unread = λ fits. (inside fits).unread (fit fits);
      carries = λ fits.
          on_ok_weaker outcome (carries_splits out a b h h' wide wide' receives receives')
          ((inside fits).carries (fit fits));
      records = records;
    }
