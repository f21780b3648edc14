-- The protection bits of the last status write, after successive parts of a change.
use Rattle.std.proofs.Common.{◌≡◌, ◌<◌, ◌+◌, ◌∙◌, ◌++◌, ℕ, Bool, true, false, List, [], ◌∷◌, zero-add, ap, sym, refl, arith}
use Rattle.std.specs.Prelude.{Option, Some, if◌then◌else◌}
use Rattle.std.proofs.lemmas.List.{append_assoc}
use Rattle.nor_model.specs.declared.status.Status.{Status}
use Rattle.nor_model.specs.Status.{bytes_with_code}
use Rattle.nor_model.specs.Chip.{kept_in}
use Rattle.nor_model.specs.Guard.{code_of}
use Rattle.nor_model.specs.Sent.{Sent, begins_status_write, counted_once, times_sent, status_writes_of}
use Rattle.nor_model.specs.Bus.{BusState}
use Rattle.nor_driver.specs.Limits.{SendsExactly}
use Rattle.nor_driver.specs.StatusWrites.{SendsStatusWrite, code_sent, last_code, EndsWithCode}

times_sent-append : (is : List ℕ → Bool) (later earlier : Sent)
    → times_sent is (later ++ earlier) ≡ times_sent is later + times_sent is earlier
times_sent-append is [] earlier = sym (zero-add (times_sent is earlier))
times_sent-append is (out ∷ later) earlier = counted_sum (is out) _ _ _ (times_sent-append is later earlier)
  where
    counted_sum : (b : Bool) (sum m n : ℕ) → sum ≡ m + n → counted_once b sum ≡ counted_once b m + n
    counted_sum true sum m n same = omega arith
    counted_sum false sum m n same = same

pub none_added : (is : List ℕ → Bool) (later earlier : Sent)
    → times_sent is (later ++ earlier) ≡ times_sent is earlier → times_sent is later ≡ 0
none_added is later earlier same = let sum = times_sent-append is later earlier in omega arith

uncounted : (b : Bool) (n : ℕ) → counted_once b n ≡ 0 → (b ≡ false) × (n ≡ 0)
uncounted true n none = absurd (omega (arith, none))
uncounted false n none = (refl, none)

last_code-both : (before : Option ℕ) (later earlier : Sent)
    → last_code before (later ++ earlier) ≡ last_code (last_code before earlier) later
last_code-both before [] earlier = refl
last_code-both before (out ∷ later) earlier =
    ap (λ (code : Option ℕ). if begins_status_write out then code_sent out else code) (last_code-both before later
    earlier)

last_code-none : (before : Option ℕ) (later : Sent) → status_writes_of later ≡ 0 → last_code before later ≡ before
last_code-none before [] none = refl
last_code-none before (out ∷ later) none =
    let not = uncounted (begins_status_write out) _ none in rw not.0 (last_code-none before later not.1)

pub coded_none : (read : ℕ) (state : BusState) → EndsWithCode read read state state
coded_none read state = record { later = []; added = refl; last = refl }

pub coded_then : {read between code : ℕ} {old mid new : BusState} → EndsWithCode read between old mid
    → EndsWithCode between code mid new → EndsWithCode read code old new
coded_then {read} {old = old} first second = record {
  later = second.later ++ first.later;
  added = second.added ∙ ap (λ (sent : Sent). second.later ++ sent) first.added
      ∙ sym (append_assoc second.later first.later old.sent);
  last = last_code-both (Some read) second.later first.later
      ∙ ap (λ (code : Option ℕ). last_code code second.later) first.last ∙ second.last;
}

pub coded_kept : {read erases programs : ℕ} {old new : BusState} → SendsExactly erases programs 0 old new
    → EndsWithCode read read old new
coded_kept {read} {old = old} exactly = record {
  later = exactly.later;
  added = exactly.added;
  last = last_code-none (Some read) exactly.later
      (none_added begins_status_write exactly.later old.sent (ap status_writes_of (sym exactly.added) ∙ omega (
        arith,
        exactly.wrote_status,
      )));
}

pub coded_written : {read code : ℕ} (status : Status) {old new : BusState} → code < 64
    → SendsStatusWrite status code old new → EndsWithCode read code old new
coded_written {code = code} status small sends = record {
  later = (0x01 ∷ bytes_with_code status code) ∷ (0x06 ∷ []) ∷ [];
  added = sends;
  last =
      let same : code_of (kept_in (bytes_with_code status code)) ≡ code = omega arith in
      ap (λ (n : ℕ). Some n) same;
}
