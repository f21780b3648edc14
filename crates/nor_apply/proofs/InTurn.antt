-- Lemmas about successive parts of a change, on any bus: their targets, their transactions, and what each exit leaves.
use Rattle.std.proofs.Common.{◌≡◌, ◌≤◌, ◌+◌, ◌*◌, ◌∙◌, ℕ, true, List, [], ◌∷◌, ◌++◌, length, sym, ap, refl, arith}
use Rattle.std.proofs.lemmas.List.{length-append, length_push, append_assoc, append-nil}
use Rattle.std.specs.List.{All}
use Rattle.std.proofs.lemmas.List.Elements.{All-head, All-tail}
use Rattle.nor_model.specs.Chip.{Chip}
use Rattle.nor_model.specs.Bus.{BusState, KeepsNature}
use Rattle.nor_model.proofs.Nature.{nature_refl, nature_then}
use Rattle.nor_driver.specs.declared.waits.OperationError.{OperationError}
use Rattle.nor_driver.specs.Waits.{OperationFails}
use Rattle.nor_driver.specs.Limits.{Limits, SendsWithin, SendsExactly, Leaves}
use Rattle.nor_driver.specs.Operations.{EndsWaiting, most_operation}
use Rattle.nor_driver.proofs.Polled.{adds_then, operation_adds}
use Rattle.nor_driver.proofs.Limits.{IsPartOf, AreParts, IsSum, sum_parts, sends_none, sends_more, sends_then, sends_exactly, exactly_none, exactly_then}
use Rattle.nor_apply.specs.declared.tally.Tally.{Tally}
use Rattle.nor_apply.specs.Spending.{Tallies}

pub record Ran (limits : Limits) (readings : ℕ) (old new : BusState) (tally : Tally) : Type 0 where
  pub nature : KeepsNature old new
  pub sends : SendsWithin limits old new
  pub exactly : SendsExactly limits.erases limits.programs limits.status_writes old new
  pub tallies : Tallies readings old new tally

abbrev pub AllowsNone : Limits → Type 0
AllowsNone limits = (limits.erases ≡ 0) × (limits.programs ≡ 0) × (limits.status_writes ≡ 0)

pub ran_none : {limits : Limits} {readings : ℕ} (state : BusState) → AllowsNone limits
    → Ran limits readings state state (record { count = 0; transactions = 0 })
ran_none {limits} state none = record {
  nature = nature_refl state;
  sends = sends_none limits state state refl;
  exactly = rw (none.0, none.1, none.2) (exactly_none state state refl);
  tallies = record {
    least = omega arith;
    few = omega arith;
    added = record { all = omega arith; few_others = omega arith };
    polled_ready = λ ready. ready;
    unsent = λ none. refl;
    idle = λ honest idle. idle;
    sent = λ honest punctual. omega arith;
  };
}

pub ran_part : {most r e p w : ℕ} {limits : Limits} {Can : Chip → Type 0} {May : BusState → BusState → Type 0}
    {old new : BusState} {tally : Tally} → Leaves most limits Can May old new → SendsExactly e p w old new
    → Tallies r old new tally → Ran (record limits { erases = e; programs = p; status_writes = w }) r old new tally
ran_part leaves exactly tallies = let sends = sends_exactly leaves.sends exactly in search arith

pub ran_one : {e p w sent : ℕ} {limits : Limits} {Can : Chip → Type 0} {May : BusState → BusState → Type 0}
    {old new : BusState} → Leaves most_operation limits Can May old new → SendsExactly e p w old new
    → EndsWaiting old new sent → Ran (record limits { erases = e; programs = p; status_writes = w }) 0 old new
    (record { count = 1; transactions = sent })
ran_one leaves exactly ends = ran_part leaves exactly record {
  least = omega (arith, ends.least);
  few = omega (arith, ends.few);
  added = operation_adds ends.sends;
  polled_ready = λ ready. ends.polled_ready;
  unsent = λ none. absurd (omega (arith, none));
  idle = λ honest idle. ends.idle honest;
  sent = ends.count;
}

module _ {first : Limits} {r : ℕ} {old mid new : BusState} {done : Tally} (ran : Ran first r old mid done) where
  tallies_after : {k readings : ℕ} {more all : Tally} → Tallies k mid new more → r + k ≤ readings
      → all.count ≡ done.count + more.count → all.transactions ≡ done.transactions + more.transactions
      → Tallies readings old new all
  tallies_after after fits count transactions =
      let before = ran.tallies in
      let added = adds_then before.added after.added in
      record {
        least = omega (arith, before.least, after.least, count, transactions);
        few = omega (arith, before.few, after.few, fits, count, transactions);
        added = record {
          all = omega (arith, added.all, transactions);
          few_others = omega (arith, added.few_others, fits, count, transactions);
        };
        polled_ready = λ ready. after.polled_ready (before.polled_ready ready);
        unsent = λ none. after.unsent (omega (arith, none, count)) ∙ before.unsent (omega (arith, none, count));
        idle = λ honest idle. after.idle (ran.nature.honest ∙ honest) (before.idle honest idle);
        sent = λ honest punctual. omega (
          arith,
          before.sent honest punctual,
          after.sent (ran.nature.honest ∙ honest) (ran.nature.punctual ∙ punctual),
          transactions,
        );
      }

  pub ran_after : {second both : Limits} {k readings : ℕ} {more all : Tally} → IsSum first second both
      → Ran second k mid new more → r + k ≤ readings
      → all.count ≡ done.count + more.count → all.transactions ≡ done.transactions + more.transactions
      → Ran both readings old new all
  ran_after {second} {both} sum after fits count transactions =
      let nature = nature_then old mid new after.nature ran.nature in
      record {
        nature = nature;
        sends = sends_then first second both old mid new (sum_parts first second both sum) ran.sends after.sends;
        exactly = exactly_then sum.erases sum.programs sum.status_writes ran.exactly after.exactly;
        tallies = tallies_after after.tallies fits count transactions;
      }

module _ {limits : Limits} {r : ℕ} {old mid : BusState} {done : Tally} (ran : Ran limits r old mid done) where
  pub honest_now : old.honest ≡ true → mid.honest ≡ true
  honest_now honest = ran.nature.honest ∙ honest

  pub fails_after : {part most : ℕ} {new : BusState} {error : OperationError} → OperationFails part mid new error
      → done.transactions + part ≤ most → OperationFails most old new error
  fails_after fails fits =
      grind (arith, ran.nature.honest, ran.nature.punctual, ran.tallies.sent, fails.stopped, fails.ran_out)

  module _ {Can : Chip → Type 0} {May : BusState → BusState → Type 0} where
    pub ran_leaves : {most : ℕ} {all : Limits} → IsPartOf limits all → done.transactions ≤ most
        → (old.honest ≡ true → Can old.chip → May old mid) → Leaves most all Can May old mid
    ran_leaves {all = all} part fits may = record {
      spends = grind (arith, ran.tallies.sent);
      sends = sends_more limits all old mid part ran.sends;
      reached = may;
    }

    pub leaves_after : {part most : ℕ} {second all : Limits} {Can' : Chip → Type 0}
        {May' : BusState → BusState → Type 0} {new : BusState} → Leaves part second Can' May' mid new
        → AreParts limits second all → done.transactions + part ≤ most
        → (old.honest ≡ true → Can old.chip → Can' mid.chip × (May' mid new → May old new))
        → Leaves most all Can May old new
    leaves_after {second = second} {all = all} {new = new} leaves parts fits follows =
        let nature = nature_then old mid new leaves.spends.nature ran.nature in
        record {
          spends =
              grind (arith, nature, ran.nature.honest, ran.nature.punctual, ran.tallies.sent, leaves.spends.falls);
          sends = sends_then limits second all old mid new parts ran.sends leaves.sends;
          reached = λ honest can.
              let next = follows honest can in next.1 (leaves.reached (honest_now honest) next.0);
        }

-- Holds after the operations for `done` succeeded. The operations for `left` aren't sent yet.
pub record Listed {A : Type 0} (all done left : List A) (limits : ℕ → Limits) (old new : BusState)
    (tally : Tally) : Type 0 where
  pub split : done ++ left ≡ all
  pub ran : Ran (limits tally.count) 0 old new tally
  pub count : tally.count ≡ length done

pub listed_none : {A : Type 0} {all left : List A} {limits : ℕ → Limits} (state : BusState) → AllowsNone (limits 0)
    → left ≡ all → Listed all [] left limits state state (record { count = 0; transactions = 0 })
listed_none state none is = record { split = is; ran = ran_none state none; count = refl }

all_middle : {X : Type 0} (P : X → Type 0) (xs : List X) (x : X) (rest : List X) → All P (xs ++ x ∷ rest) → P x
all_middle P [] x rest all = All-head P x rest all
all_middle P (y ∷ ys) x rest all = all_middle P ys x rest (All-tail P y (ys ++ x ∷ rest) all)

module _ {A : Type 0} {all done left : List A} {limits : ℕ → Limits} {old mid : BusState} {tally : Tally}
    (listed : Listed all done left limits old mid tally) where
  pub listed_all : left ≡ [] → done ≡ all
  listed_all none = sym (append-nil done) ∙ ap (λ (rest : List A). done ++ rest) (sym none) ∙ listed.split

  module _ {x : A} {rest : List A} (next : left ≡ x ∷ rest) where
    pub listed_split : done ++ x ∷ rest ≡ all
    listed_split = ap (λ (later : List A). done ++ later) (sym next) ∙ listed.split

    pub listed_next : (P : A → Type 0) → All P all → P x
    listed_next P each = all_middle P done x rest (rw listed_split each)

    pub listed_fewer : tally.count + 1 ≤ length all
    listed_fewer = omega (arith, ap length listed_split, length-append done (x ∷ rest), listed.count)

    pub listed_fails : {most : ℕ} {new : BusState} {error : OperationError}
        → OperationFails most_operation mid new error → most_operation * length all ≤ most
        → OperationFails most old new error
    listed_fails fails fits = fails_after listed.ran fails (omega (arith, listed_fewer))

    module _ {one : Limits} {Can : Chip → Type 0} {May : BusState → BusState → Type 0} {new : BusState}
        (leaves : Leaves most_operation one Can May mid new) where
      pub listed_after : {most : ℕ} {limits' : Limits} {Can' : Chip → Type 0} {May' : BusState → BusState → Type 0}
          → AreParts (limits tally.count) one limits' → most_operation * length all ≤ most
          → (old.honest ≡ true → Can' old.chip → Can mid.chip × (May mid new → May' old new))
          → Leaves most limits' Can' May' old new
      listed_after parts fits follows = leaves_after listed.ran leaves parts (omega (arith, listed_fewer)) follows

      pub listed_more : {sent e p w : ℕ} {more : Tally}
          → IsSum (limits tally.count) (record one { erases = e; programs = p; status_writes = w }) (limits more.count)
          → SendsExactly e p w mid new → EndsWaiting mid new sent → more.count ≡ tally.count + 1
          → more.transactions ≡ tally.transactions + sent → Listed all (done ++ x ∷ []) rest limits old new more
      listed_more sum exactly ends count transactions = record {
        split = append_assoc done (x ∷ []) rest ∙ listed_split;
        ran = ran_after listed.ran sum (ran_one leaves exactly ends) (omega arith) count transactions;
        count = omega (arith, count, listed.count, length_push done x);
      }
