-- If `KeepsNature` holds for each of several successive transactions, it holds for all of them together.
use Rattle.std.proofs.Common.{◌≡◌, ◌∙◌, ◌∷◌, ◌++◌, ℕ, true, false, List, [], refl, sym, ap}
use Rattle.std.specs.Prelude.{Result, Ok, Err, if◌then◌else◌}
use Rattle.std.proofs.lemmas.List.{append_assoc}
use Rattle.nor_model.specs.Command.{begins_quiet}
use Rattle.nor_model.specs.declared.bus.Stopped.{Stopped}
use Rattle.nor_model.specs.Exchange.{Exchange}
use Rattle.nor_model.specs.History.{exchange_of}
use Rattle.nor_model.specs.Sent.{Sent, with_sent, sent_in}
use Rattle.nor_model.specs.Bus.{BusState, SameNature, AddsSent, KeepsNature, Records}
use Rattle.nor_model.proofs.Histories.{continues_refl, continues_then, continues_by}

with_sent_before : (out : List ℕ) (one two : Sent) → with_sent out (one ++ two) ≡ with_sent out one ++ two
with_sent_before out one two = elim (begins_quiet out)
    as (λ q. (if q then one ++ two else out ∷ (one ++ two)) ≡ (if q then one else out ∷ one) ++ two)
    [ true ↦ refl | false ↦ refl ]

pub sent_in_both : (one two : List Exchange) → sent_in (one ++ two) ≡ sent_in one ++ sent_in two
sent_in_both [] two = refl
sent_in_both (exchange ∷ one) two =
    ap (with_sent exchange.out) (sent_in_both one two) ∙ with_sent_before exchange.out (sent_in one) (sent_in two)

sent_exchange : (out answer : List ℕ) (outcome : Result Unit Stopped) → (exchange_of out answer outcome).out ≡ out
sent_exchange out answer (Ok done) = refl
sent_exchange out answer (Err stop) = refl

adds_sent_by : {out answer : List ℕ} {outcome : Result Unit Stopped} {old new : BusState}
    → Records out answer outcome old new → AddsSent old new
adds_sent_by {out} {answer} {outcome} {old} records = record {
  later = exchange_of out answer outcome ∷ [];
  is = records.history;
  sent = records.sent ∙ ap (λ (bytes : List ℕ). with_sent bytes old.sent) (sym (sent_exchange out answer outcome))
      ∙ with_sent_before (exchange_of out answer outcome).out [] old.sent;
}

adds_sent_then : {old mid new : BusState} → AddsSent old mid → AddsSent mid new → AddsSent old new
adds_sent_then {old} first second = record {
  later = second.later ++ first.later;
  is = second.is ∙ ap (λ (h : List Exchange). second.later ++ h) first.is
      ∙ sym (append_assoc second.later first.later old.history);
  sent = second.sent ∙ ap (λ (sent : Sent). sent_in second.later ++ sent) first.sent
      ∙ sym (append_assoc (sent_in second.later) (sent_in first.later) old.sent)
      ∙ ap (λ (sent : Sent). sent ++ old.sent) (sym (sent_in_both second.later first.later));
}

pub nature_refl : (state : BusState) → KeepsNature state state
nature_refl state = record {
  honest = refl;
  steady = refl;
  unlimited = refl;
  longer = refl;
  punctual = refl;
  further = refl;
  config = λ honest. refl;
  history = continues_refl state.history;
  adds_sent = record { later = []; is = refl; sent = refl };
  allowances = refl;
}

pub nature_by : {out answer : List ℕ} {outcome : Result Unit Stopped} {old new : BusState} → SameNature old new
    → Records out answer outcome old new → KeepsNature old new
nature_by same records = record {
  honest = same.honest;
  steady = same.steady;
  unlimited = same.unlimited;
  longer = same.longer;
  punctual = same.punctual;
  further = same.further;
  config = same.config;
  history = continues_by records.history;
  adds_sent = adds_sent_by records;
  allowances = records.allowances;
}

pub nature_then : (old mid new : BusState) → KeepsNature mid new → KeepsNature old mid → KeepsNature old new
nature_then old mid new later earlier = record {
  honest = later.honest ∙ earlier.honest;
  steady = later.steady ∙ earlier.steady;
  unlimited = later.unlimited ∙ earlier.unlimited;
  longer = later.longer ∙ earlier.longer;
  punctual = later.punctual ∙ earlier.punctual;
  further = later.further ∙ earlier.further;
  config = λ honest. later.config (earlier.honest ∙ honest) ∙ earlier.config honest;
  history = continues_then earlier.history later.history;
  adds_sent = adds_sent_then earlier.adds_sent later.adds_sent;
  allowances = later.allowances ∙ earlier.allowances;
}
