use Rattle.std.proofs.Common.{◌≡◌, ◌≤◌, ◌+◌, ◌%◌, ◌∙◌, ◌++◌, ℕ, cond, List, [], ◌∷◌, length, length-append, zero-add, refl, sym, ap, arith}
use Rattle.std.specs.Prelude.{map}
use Rattle.std.specs.List.{All}
use Rattle.std.proofs.Math.Bool.{and-false}
use Rattle.std.proofs.lemmas.List.{length-map}
use Rattle.std.proofs.lemmas.List.Elements.{All-cons, All-head, All-tail}
use Rattle.std.proofs.lemmas.List.Sums.{sum_by-cons, sum_by-append}
use Rattle.nor_model.specs.Exchange.{Exchange}
use Rattle.nor_model.specs.History.{Continues, replied}
use Rattle.nor_model.specs.PolledReady.{is_poll}
use Rattle.nor_model.specs.Bus.{BusState}
use Rattle.nor_model.proofs.Histories.{continues_by}
use Rattle.nor_driver.specs.declared.waits.Waited.{Waited}
use Rattle.nor_driver.specs.Polls.{is_busy_poll, busy_polls, poll_of, PollsUntilReady, AddsTransactions}
use Rattle.nor_driver.specs.Waits.{Polls}
use Rattle.nor_driver.specs.Operations.{SendsOperation}

pub record PollsBusy (old new : List Exchange) (polls : ℕ) : Type 0 where
  pub busy : List ℕ
  pub each : All (λ status. status % 2 ≡ 1) busy
  pub count : polls ≡ length busy
  pub is : new ≡ map poll_of busy ++ old

module _ {first : List Exchange} {old new : BusState} {polls status : ℕ} (polled : PollsBusy first old.history polls)
    (once : Polls old new status) where
  pub polled_busy : {more : ℕ} → status % 2 ≡ 1 → more ≡ polls + 1 → PollsBusy first new.history more
  polled_busy busy sum = record {
    busy = status ∷ polled.busy;
    each = All-cons (λ (s : ℕ). s % 2 ≡ 1) status polled.busy busy polled.each;
    count = omega (arith, polled.count, sum);
    is = once.history ∙ ap (λ (earlier : List Exchange). poll_of status ∷ earlier) polled.is;
  }

  pub polled_ready : {waited : Waited} → status % 2 ≡ 0 → waited.polls ≡ polls + 1 → waited.status1 ≡ status
      → PollsUntilReady first new.history waited
  polled_ready {waited} ready sum same = record {
    busy = polled.busy;
    each = polled.each;
    count = omega (arith, polled.count, sum);
    ready = rw same ready;
    is = rw same (once.history ∙ ap (λ (earlier : List Exchange). poll_of status ∷ earlier) polled.is);
  }

pub replied_then : (out before : List ℕ) {first second : List ℕ} {old mid : List Exchange} → length first ≡ 0
    → length second ≡ 0 → mid ≡ replied before first ∷ old
    → replied out second ∷ mid ≡ replied out [] ∷ replied before [] ∷ old
replied_then out before {first} {second} {old} {mid} none none' by =
    ap (λ (reply : List ℕ). replied out reply ∷ mid) (empty second none')
    ∙ ap (λ (earlier : List Exchange). replied out [] ∷ earlier)
    (by ∙ ap (λ (reply : List ℕ). replied before reply ∷ old) (empty first none))
  where
    empty : (bytes : List ℕ) → length bytes ≡ 0 → bytes ≡ []
    empty [] none = refl
    empty (byte ∷ rest) none = absurd (omega (arith, none))

count_one : (exchange : Exchange) (earlier : List Exchange)
    → busy_polls (exchange ∷ earlier) ≡ cond (is_busy_poll exchange) 1 0 + busy_polls earlier
count_one exchange earlier = sum_by-cons (λ (x : Exchange). cond (is_busy_poll x) 1 0) exchange earlier

count_busy : (statuses : List ℕ) (earlier : List Exchange) → All (λ status. status % 2 ≡ 1) statuses
    → busy_polls (map poll_of statuses ++ earlier) ≡ length statuses + busy_polls earlier
count_busy [] earlier each = sym (zero-add _)
count_busy (status ∷ rest) earlier each =
    let head : status % 2 ≡ 1 = All-head (λ (s : ℕ). s % 2 ≡ 1) status rest each in
    let more = count_busy rest earlier (All-tail (λ (s : ℕ). s % 2 ≡ 1) status rest each) in
    count_one (poll_of status) (map poll_of rest ++ earlier) ∙ rw head (omega (arith, more))

count_ready : (status : ℕ) (earlier : List Exchange) → status % 2 ≡ 0
    → busy_polls (poll_of status ∷ earlier) ≡ busy_polls earlier
count_ready status earlier ready = count_one (poll_of status) earlier ∙ rw ready (zero-add _)

count_empty : (out : List ℕ) (earlier : List Exchange)
    → busy_polls (replied out [] ∷ earlier) ≡ busy_polls earlier
count_empty out earlier = count_one (replied out []) earlier ∙ rw (and-false (is_poll out)) (zero-add _)

pub busy_continues : {old new : List Exchange} → Continues old new → busy_polls old ≤ busy_polls new
busy_continues {old} {new} continues =
    let sum = sum_by-append (λ (x : Exchange). cond (is_busy_poll x) 1 0) continues.later old in
    omega (arith, sum, ap busy_polls continues.is)

pub adds_none : (history : List Exchange) → AddsTransactions 0 0 history history
adds_none history = record { all = omega arith; few_others = omega arith }

pub adds_one : {exchange : Exchange} {old new : List Exchange} → new ≡ exchange ∷ old → AddsTransactions 1 1 old new
adds_one {exchange} {old} {new} by = record {
  all = ap length by ∙ omega arith;
  few_others = omega (arith, busy_continues (continues_by by));
}

pub adds_then : {m n p q : ℕ} {old mid new : List Exchange} → AddsTransactions m p old mid
    → AddsTransactions n q mid new → AddsTransactions (m + n) (p + q) old new
adds_then first second = record {
  all = omega (arith, first.all, second.all);
  few_others = omega (arith, first.few_others, second.few_others);
}

pub operation_adds : {old new : BusState} {sent : ℕ} → SendsOperation old new sent
    → AddsTransactions sent 3 old.history new.history
operation_adds {old} {new} sends =
    let polls = sends.history in
    let enabled = replied (0x06 ∷ []) [] ∷ old.history in
    let begun = replied sends.command [] ∷ enabled in
    let long : length (map poll_of polls.busy ++ begun) ≡ length polls.busy + length begun =
    length-append (map poll_of polls.busy) begun ∙ ap (λ (n : ℕ). n + length begun) (length-map polls.busy poll_of) in
    record {
      all = omega (arith, ap length polls.is, long, polls.count, sends.count);
      few_others = omega (
        arith,
        ap busy_polls polls.is,
        count_ready sends.waited.status1 (map poll_of polls.busy ++ begun) polls.ready,
        count_busy polls.busy begun polls.each,
        count_empty sends.command enabled,
        count_empty (0x06 ∷ []) old.history,
        polls.count,
        sends.count,
      );
    }
