-- Lemmas on reads and programs in parts: the invariants `ReadsInParts` and `ProgramsInParts` also hold after one more
-- part, and imply the clauses about the whole transaction.
use Rattle.std.proofs.Common.{◌≡◌, ◌∙◌, ◌<◌, ◌≤◌, ◌+◌, ◌++◌, ◌⊎◌, ℕ, List, [], ◌∷◌, length, refl, sym, ap, subst, arith, inl, inr, length-take-le, length-drop, append_assoc}
use Rattle.std.specs.Prelude.{Result, Ok, Err, OnOk, take, drop}
use Rattle.std.proofs.lemmas.Slice.{take-put_mid}
use borrow.Rule.Slice.PartMut.{put_mid}
use Rattle.nor_model.specs.Exchange.{Exchange}
use Rattle.nor_model.specs.History.{replied, stopped, exchange_of}
use Rattle.nor_model.specs.declared.bus.Stopped.{Stopped}
use Rattle.nor_buses.specs.ReadsAs.{part}
use Rattle.nor_buses.specs.Parts.{address_bytes, further, bytes_of_replies, IsReadPart, AreReadParts, SplitsRead}
use Rattle.nor_buses.specs.Parts.{program_part, bytes_programmed, EndsReady, EndsEnabled, AreProgramSteps, SplitsProgram, ArePolls, WaitsReady, PollsOnce}

never : (P : Type 0) (result : Result Unit Stopped) → OnOk result ⊥ → OnOk result P
never P (Ok done) fails = absurd fails
never P (Err stop) fails = tt

always : (P : Type 0) (result : Result Unit Stopped) → P → OnOk result P
always P (Ok done) fact = fact
always P (Err stop) fact = tt

pub record ReadsInParts (most : ℕ) (out answer : List ℕ) (old new : List Exchange) : Type 0 where
  pub later : List Exchange
  pub is : new ≡ later ++ old
  pub parts : AreReadParts most out later
  pub whole : answer ≡ bytes_of_replies later

pub none_read : (most : ℕ) (out : List ℕ) (old : List Exchange) → ReadsInParts most out [] old old
none_read most out old = record { later = []; is = refl; parts = tt; whole = refl }

pub read_more : (most from k n : ℕ) (out reply answer : List ℕ) (old mid new : List Exchange)
    → ReadsInParts most out (take from reply) old mid → from ≤ length reply → n ≡ from + length answer
    → length answer ≤ most → new ≡ replied (further out from) answer ∷ mid
    → ReadsInParts most out (take n (put_mid from k reply answer)) old new
read_more most from k n out reply answer old mid new was within next few e =
    let len : length (bytes_of_replies was.later) ≡ from =
    sym (ap (λ (xs : List ℕ). length xs) was.whole) ∙ length-take-le from reply within in
    let P : ℕ → Type 0 = λ i. IsReadPart most out i (replied (further out from) answer) in
    record {
      later = replied (further out from) answer ∷ was.later;
      is = e ∙ ap (λ (h : List Exchange). replied (further out from) answer ∷ h) was.is;
      parts = (subst P (sym len) (record { sends = refl; few = few }), was.parts);
      whole = take-put_mid from k reply answer n next within
          ∙ ap (λ (xs : List ℕ). xs ++ answer) was.whole;
    }

pub read_stopped : (most from : ℕ) (out reply answer : List ℕ) (result : Result Unit Stopped)
    (old mid new : List Exchange) → ReadsInParts most out (take from reply) old mid → from ≤ length reply
    → OnOk result ⊥ → (new ≡ mid) ⊎ (new ≡ stopped (further out from) ∷ mid)
    → SplitsRead most out answer result old new
read_stopped most from out reply answer result old mid new was within fails (inl same) = record {
  later = was.later;
  is = same ∙ was.is;
  parts = was.parts;
  whole = never _ result fails;
}
read_stopped most from out reply answer result old mid new was within fails (inr e) =
    let len : length (bytes_of_replies was.later) ≡ from =
    sym (ap (λ (xs : List ℕ). length xs) was.whole) ∙ length-take-le from reply within in
    let P : ℕ → Type 0 = λ i. IsReadPart most out i (stopped (further out from)) in
    record {
      later = stopped (further out from) ∷ was.later;
      is = e ∙ ap (λ (h : List Exchange). stopped (further out from) ∷ h) was.is;
      parts = (subst P (sym len) (record { sends = refl; few = omega arith }), was.parts);
      whole = never _ result fails;
    }

pub record ProgramsInParts (most address : ℕ) (bytes : List ℕ) (n : ℕ) (old new : List Exchange) : Type 0 where
  pub later : List Exchange
  pub is : new ≡ later ++ old
  pub steps : AreProgramSteps most address bytes later
  pub count : bytes_programmed later ≡ n

pub record OnlyPolls (old new : List Exchange) : Type 0 where
  pub later : List Exchange
  pub is : new ≡ later ++ old
  pub polls : ArePolls later

pub sends_out : (out answer : List ℕ) (result : Result Unit Stopped) → (exchange_of out answer result).out ≡ out
sends_out out answer (Ok done) = refl
sends_out out answer (Err stop) = refl

pub polls_once : (answer : List ℕ) (result : Result Unit Stopped) (old new : List Exchange)
    → new ≡ exchange_of (5 ∷ []) answer result ∷ old → PollsOnce old new
polls_once answer result old new e = record {
  exchange = exchange_of (5 ∷ []) answer result;
  poll = record { sends = sends_out (5 ∷ []) answer result };
  is = e;
}

pub one_more : (old mid new : List Exchange) → OnlyPolls old mid → PollsOnce mid new → OnlyPolls old new
one_more old mid new was once = record {
  later = once.exchange ∷ was.later;
  is = once.is ∙ ap (λ (h : List Exchange). once.exchange ∷ h) was.is;
  polls = (once.poll, was.polls);
}

pub waits_not : (result : Result Unit Stopped) (old new : List Exchange) → OnlyPolls old new → OnOk result ⊥
    → WaitsReady result old new
waits_not result old new was fails = record {
  later = was.later;
  is = was.is;
  polls = was.polls;
  ready = never _ result fails;
}

pub waits_ready : (result : Result Unit Stopped) (old mid new : List Exchange) → OnlyPolls old mid → PollsOnce mid new
    → EndsReady new → WaitsReady result old new
unfolding one_more
waits_ready result old mid new was once ends =
    let all = one_more old mid new was once in
    let first : once.exchange ≡ replied (5 ∷ []) ends.answer = cc (once.is, ends.is) in
    let ready : EndsReady (once.exchange ∷ was.later) = record {
      answer = ends.answer;
      before = was.later;
      is = ap (λ (e : Exchange). e ∷ was.later) first;
      some = ends.some;
      ready = ends.ready;
    } in record {
      later = once.exchange ∷ was.later;
      is = all.is;
      polls = all.polls;
      ready = always _ result ready;
    }

count_polls : (polls later : List Exchange) → ArePolls polls → bytes_programmed (polls ++ later) ≡ bytes_programmed later
count_polls [] later all = refl
count_polls (poll ∷ polls) later all =
    let rest = count_polls polls later all.1 in
    let len : length poll.out ≡ 1 = ap (λ (xs : List ℕ). length xs) all.0.sends in omega (arith, rest, len)

steps_polls : (most address : ℕ) (bytes : List ℕ) (polls later : List Exchange) → ArePolls polls
    → AreProgramSteps most address bytes later → AreProgramSteps most address bytes (polls ++ later)
steps_polls most address bytes [] later all steps = steps
steps_polls most address bytes (poll ∷ polls) later all steps =
    (inl all.0, steps_polls most address bytes polls later all.1 steps)

ready_after : (polls later : List Exchange) → EndsReady polls → EndsReady (polls ++ later)
ready_after polls later ends = record {
  answer = ends.answer;
  before = ends.before ++ later;
  is = ap (λ (h : List Exchange). h ++ later) ends.is;
  some = ends.some;
  ready = ends.ready;
}

pub then_waits : (most address : ℕ) (bytes : List ℕ) (n : ℕ) (result : Result Unit Stopped)
    (old mid new : List Exchange) → ProgramsInParts most address bytes n old mid → WaitsReady result mid new
    → ProgramsInParts most address bytes n old new
then_waits most address bytes n result old mid new was waits = record {
  later = waits.later ++ was.later;
  is = waits.is ∙ ap (λ (h : List Exchange). waits.later ++ h) was.is ∙ sym (append_assoc waits.later was.later old);
  steps = steps_polls most address bytes waits.later was.later waits.polls was.steps;
  count = count_polls waits.later was.later waits.polls ∙ was.count;
}

pub then_enables : (most address : ℕ) (bytes : List ℕ) (n : ℕ) (answer : List ℕ) (result : Result Unit Stopped)
    (done : Unit) (old mid waited new : List Exchange) → ProgramsInParts most address bytes n old mid
    → WaitsReady (Ok done) mid waited → new ≡ exchange_of (6 ∷ []) answer result ∷ waited
    → ProgramsInParts most address bytes n old new
unfolding then_waits
then_enables most address bytes n answer result done old mid waited new was waits e =
    let after = then_waits most address bytes n (Ok done) old mid waited was waits in
    let enable = exchange_of (6 ∷ []) answer result in
    let len : length enable.out ≡ 1 = ap (λ (xs : List ℕ). length xs) (sends_out (6 ∷ []) answer result) in
    record {
      later = enable ∷ after.later;
      is = e ∙ ap (λ (h : List Exchange). enable ∷ h) after.is;
      steps = (
        inr (inl (record {
          sends = sends_out (6 ∷ []) answer result;
          ready = ready_after waits.later was.later waits.ready;
        })),
        after.steps,
      );
      count = omega (arith, after.count, len);
    }

enabled_later : (later old before : List Exchange) → later ++ old ≡ replied (6 ∷ []) [] ∷ before
    → (later ≡ []) ⊎ EndsEnabled later
enabled_later [] old before e = inl refl
enabled_later (exchange ∷ later) old before e =
    let first : exchange ≡ replied (6 ∷ []) [] = cc in
    inr (record { before = later; is = ap (λ (x : Exchange). x ∷ later) first })

no_bytes : (bytes : List ℕ) → length bytes ≡ 0 → bytes ≡ []
no_bytes [] none = refl
no_bytes (byte ∷ rest) none = absurd (omega (arith, none))

part_len : (bytes : List ℕ) (n len : ℕ) → n + len ≤ length bytes → length (part bytes n len) ≡ len
part_len bytes n len within = length-take-le len (drop n bytes) (omega (arith, within, length-drop n bytes))

pub then_programs : (most address : ℕ) (bytes : List ℕ) (n len : ℕ) (piece : List ℕ) (result : Result Unit Stopped)
    (old mid new : List Exchange) (was : ProgramsInParts most address bytes n old mid)
    → (was.later ≡ []) ⊎ EndsEnabled was.later → piece ≡ part bytes n len → 0 < len → 4 + len ≤ most
    → n + len ≤ length bytes
    → new ≡ exchange_of (2 ∷ address_bytes (address + n) ++ piece) [] result ∷ mid
    → ProgramsInParts most address bytes (n + len) old new
then_programs most address bytes n len piece result old mid new was enabled is some few within e =
    let sent = 2 ∷ address_bytes (address + n) ++ piece in
    let exchange = exchange_of sent [] result in
    let out : exchange.out ≡ sent = sends_out sent [] result in
    let count = was.count in
    let whole : sent ≡ program_part address bytes (bytes_programmed was.later) len =
    ap (λ (xs : List ℕ). 2 ∷ address_bytes (address + n) ++ xs) is
    ∙ ap (λ (k : ℕ). program_part address bytes k len) (sym count) in
    let long : length exchange.out ≡ 4 + len =
    ap (λ (xs : List ℕ). length xs) out
    ∙ omega (arith, ap (λ (xs : List ℕ). length xs) is, part_len bytes n len within) in
    record {
      later = exchange ∷ was.later;
      is = e ∙ ap (λ (h : List Exchange). exchange ∷ h) was.is;
      steps = (
        inr (inr (record {
          len = len;
          sends = out ∙ whole;
          some = some;
          few = few;
          within = omega (arith, count, within);
          enabled = enabled;
        })),
        was.steps,
      );
      count = omega (arith, count, long);
    }

pub programs_first : (most address : ℕ) (bytes : List ℕ) (len : ℕ) (piece : List ℕ) (result : Result Unit Stopped)
    (old new : List Exchange) → piece ≡ part bytes 0 len → 0 < len → 4 + len ≤ most → len ≤ length bytes
    → new ≡ exchange_of (2 ∷ address_bytes address ++ piece) [] result ∷ old
    → ProgramsInParts most address bytes len old new
programs_first most address bytes len piece result old new is some few within e =
    let P : ℕ → Type 0 = λ k. ProgramsInParts most address bytes k old new in
    let Q : ℕ → Type 0 = λ k. new ≡ exchange_of (2 ∷ address_bytes k ++ piece) [] result ∷ old in
    let start : ProgramsInParts most address bytes 0 old old = record {
      later = [];
      is = refl;
      steps = tt;
      count = refl;
    } in
    let zero_less : 0 + len ≡ len = omega arith in
    let from : address ≡ address + 0 = omega arith in
    subst P zero_less
    (then_programs most address bytes 0 len piece result old old new start (inl refl) is some few
    (omega (arith, within)) (subst Q from e))

pub programs_next : (most address : ℕ) (bytes : List ℕ) (n len : ℕ) (piece : List ℕ) (result : Result Unit Stopped)
    (answer : List ℕ) (old mid enabled new : List Exchange) → ProgramsInParts most address bytes n old enabled
    → enabled ≡ replied (6 ∷ []) answer ∷ mid → length answer ≡ 0 → piece ≡ part bytes n len → 0 < len → 4 + len ≤ most
    → n + len ≤ length bytes
    → new ≡ exchange_of (2 ∷ address_bytes (address + n) ++ piece) [] result ∷ enabled
    → ProgramsInParts most address bytes (n + len) old new
programs_next most address bytes n len piece result answer old mid enabled new was ends none is some few within e =
    let bare = ap (λ (xs : List ℕ). replied (6 ∷ []) xs ∷ mid) (no_bytes answer none) in
    then_programs most address bytes n len piece result old enabled new was
    (enabled_later was.later old mid (sym was.is ∙ ends ∙ bare)) is some few within e

pub programs_not : (most address : ℕ) (bytes : List ℕ) (n : ℕ) (result : Result Unit Stopped) (old new : List Exchange)
    → ProgramsInParts most address bytes n old new → OnOk result ⊥
    → SplitsProgram most address bytes result old new
programs_not most address bytes n result old new was fails = record {
  later = was.later;
  is = was.is;
  steps = was.steps;
  all = never _ result fails;
}

pub programs_all : (most address : ℕ) (bytes : List ℕ) (n : ℕ) (result : Result Unit Stopped) (old new : List Exchange)
    → ProgramsInParts most address bytes n old new → n ≡ length bytes → SplitsProgram most address bytes result old new
programs_all most address bytes n result old new was whole = record {
  later = was.later;
  is = was.is;
  steps = was.steps;
  all = always _ result (was.count ∙ whole);
}
