use Rattle.std.proofs.Common.{◌≡◌, ◌≤◌, ◌+◌, ◌++◌, ◌∙◌, ℕ, Bool, true, false, cond, List, [], ◌∷◌, ap, sym, arith, refl}
use Rattle.std.specs.Prelude.{if◌then◌else◌}
use Rattle.std.proofs.lemmas.List.{append_assoc}
use Rattle.std.proofs.lemmas.Bool.Decides.{nat_tests}
use Rattle.std.proofs.Math.Bool.{or-false}
use Rattle.nor_model.specs.Sent.{Sent, with_sent, none_targeted, is_in_targeted, begins_erase, begins_program, begins_status_write, is_stirred, is_unknown_to_model, erases_of, programs_of, status_writes_of, counted_once}
use Rattle.nor_model.specs.Command.{begins_quiet}
use Rattle.nor_model.specs.Bus.{BusState}
use Rattle.nor_driver.proofs.Sends.{Sends}
use Rattle.nor_driver.specs.Limits.{Limits, limits_of, SendsWithin, SendsExactly}

pub record IsPartOf (less more : Limits) : Type 0 where
  pub sectors : (s : ℕ) → less.sectors s ≡ true → more.sectors s ≡ true
  pub bytes : (a byte : ℕ) → less.bytes a byte ≡ true → more.bytes a byte ≡ true
  pub status : (one two : ℕ) → less.status one two ≡ true → more.status one two ≡ true
  pub erases : less.erases ≤ more.erases
  pub programs : less.programs ≤ more.programs
  pub status_writes : less.status_writes ≤ more.status_writes

pub record AreParts (first second all : Limits) : Type 0 where
  pub sectors : (s : ℕ) → first.sectors s ≡ true → all.sectors s ≡ true
  pub sectors' : (s : ℕ) → second.sectors s ≡ true → all.sectors s ≡ true
  pub bytes : (a byte : ℕ) → first.bytes a byte ≡ true → all.bytes a byte ≡ true
  pub bytes' : (a byte : ℕ) → second.bytes a byte ≡ true → all.bytes a byte ≡ true
  pub status : (one two : ℕ) → first.status one two ≡ true → all.status one two ≡ true
  pub status' : (one two : ℕ) → second.status one two ≡ true → all.status one two ≡ true
  pub erases : first.erases + second.erases ≤ all.erases
  pub programs : first.programs + second.programs ≤ all.programs
  pub status_writes : first.status_writes + second.status_writes ≤ all.status_writes

pub record IsSum (first second all : Limits) : Type 0 where
  pub sectors : (s : ℕ) → first.sectors s ≡ true → all.sectors s ≡ true
  pub sectors' : (s : ℕ) → second.sectors s ≡ true → all.sectors s ≡ true
  pub bytes : (a byte : ℕ) → first.bytes a byte ≡ true → all.bytes a byte ≡ true
  pub bytes' : (a byte : ℕ) → second.bytes a byte ≡ true → all.bytes a byte ≡ true
  pub status : (one two : ℕ) → first.status one two ≡ true → all.status one two ≡ true
  pub status' : (one two : ℕ) → second.status one two ≡ true → all.status one two ≡ true
  pub erases : first.erases + second.erases ≡ all.erases
  pub programs : first.programs + second.programs ≡ all.programs
  pub status_writes : first.status_writes + second.status_writes ≡ all.status_writes

pub sum_parts : (first second all : Limits) → IsSum first second all → AreParts first second all
sum_parts first second all sum = search arith

pub sends_none : (limits : Limits) (old new : BusState) → new.sent ≡ old.sent → SendsWithin limits old new
sends_none limits old new same = grind arith

pub sends_more : (less more : Limits) (old new : BusState) → IsPartOf less more → SendsWithin less old new
    → SendsWithin more old new
sends_more less more old new part sends = grind (
  arith,
  sends.targeted,
  sends.programmed,
  sends.written,
  part.sectors,
  part.bytes,
  part.status,
)

pub sends_then : (first second all : Limits) (old mid new : BusState) → AreParts first second all
    → SendsWithin first old mid → SendsWithin second mid new → SendsWithin all old new
sends_then first second all old mid new parts before after =
    grind (
      arith,
      before.targeted,
      after.targeted,
      before.programmed,
      after.programmed,
      before.written,
      after.written,
      parts.sectors,
      parts.sectors',
      parts.bytes,
      parts.bytes',
      parts.status,
      parts.status',
    )

pub sends_same : (limits : Limits) (old mid new : BusState) → new.sent ≡ mid.sent → SendsWithin limits old mid
    → SendsWithin limits old new
sends_same limits old mid new same sends = grind (arith, sends.targeted, sends.programmed, sends.written)

pub exactly_none : (old new : BusState) → new.sent ≡ old.sent → SendsExactly 0 0 0 old new
exactly_none old new same =
    let erases = ap erases_of same in let programs = ap programs_of same in let writes = ap status_writes_of same in
    record {
      later = [];
      added = same;
      erased = omega (arith, erases);
      programmed = omega (arith, programs);
      wrote_status = omega (arith, writes);
    }

pub exactly_same : {e p w : ℕ} {old mid new : BusState} → new.sent ≡ mid.sent → SendsExactly e p w old mid
    → SendsExactly e p w old new
exactly_same same exactly = record {
  later = exactly.later;
  added = same ∙ exactly.added;
  erased = ap erases_of same ∙ exactly.erased;
  programmed = ap programs_of same ∙ exactly.programmed;
  wrote_status = ap status_writes_of same ∙ exactly.wrote_status;
}

pub exactly_then : {e p w e' p' w' e'' p'' w'' : ℕ} {old mid new : BusState} → e + e' ≡ e'' → p + p' ≡ p''
    → w + w' ≡ w'' → SendsExactly e p w old mid → SendsExactly e' p' w' mid new → SendsExactly e'' p'' w'' old new
exactly_then {old = old} erases programs status before after = record {
  later = after.later ++ before.later;
  added = after.added ∙ ap (λ (sent : Sent). after.later ++ sent) before.added
      ∙ sym (append_assoc after.later before.later old.sent);
  erased = omega (arith, before.erased, after.erased);
  programmed = omega (arith, before.programmed, after.programmed);
  wrote_status = omega (arith, before.wrote_status, after.wrote_status);
}

pub sends_exactly : {limits : Limits} {e p w : ℕ} {old new : BusState} → SendsWithin limits old new
    → SendsExactly e p w old new
    → SendsWithin (record limits { erases = e; programs = p; status_writes = w }) old new
sends_exactly sends exactly = search arith

counts_most : (is : Bool) (before after : ℕ) → after ≡ counted_once is before → after ≤ before + cond is 1 0
counts_most true before after same = grind arith
counts_most false before after same = omega arith

counts_up : (is : Bool) (before after : ℕ) → after ≡ counted_once is before → after ≡ before + cond is 1 0
counts_up true before after same = grind arith
counts_up false before after same = omega arith

pub sends_one : (out : List ℕ) (old new : BusState) → is_unknown_to_model out ≡ false → Sends out old new
    → SendsWithin (limits_of out) old new
sends_one out old new known sends = record {
  targeted = grind (arith, sends.sent.targeted, or-false);
  programmed = grind (arith, sends.sent.programmed, or-false);
  written = grind (arith, sends.sent.written, or-false);
  erases = counts_most (begins_erase out) (erases_of old.sent) (erases_of new.sent) sends.sent.erases;
  programs = counts_most (begins_program out) (programs_of old.sent) (programs_of new.sent) sends.sent.programs;
  status_writes = counts_most (begins_status_write out) (status_writes_of old.sent) (status_writes_of new.sent)
      sends.sent.status_writes;
  unknown = grind (arith, or-false, sends.sent.unknown);
}

added_by : (out : List ℕ) → Sent
added_by out = if begins_quiet out then [] else out ∷ []

with_added : (out : List ℕ) (before : Sent) → with_sent out before ≡ added_by out ++ before
unfolding added_by
with_added out before = elim (begins_quiet out) as (λ b. (if b then before else out ∷ before) ≡ (if b then [] else out ∷ []) ++ before) [ true ↦ refl | false ↦ refl ]

pub exactly_one : (out : List ℕ) (old new : BusState) → Sends out old new
    → SendsExactly (limits_of out).erases (limits_of out).programs (limits_of out).status_writes old new
exactly_one out old new sends = record {
  later = added_by out;
  added = sends.added ∙ with_added out old.sent;
  erased = counts_up (begins_erase out) (erases_of old.sent) (erases_of new.sent) sends.sent.erases;
  programmed = counts_up (begins_program out) (programs_of old.sent) (programs_of new.sent) sends.sent.programs;
  wrote_status = counts_up (begins_status_write out) (status_writes_of old.sent) (status_writes_of new.sent)
      sends.sent.status_writes;
}

pub in_none : (s : ℕ) → is_in_targeted none_targeted s ≡ true → ⊥
in_none s is = grind (arith, nat_tests)

enable_part : (limits : Limits) → IsPartOf (limits_of (6 ∷ [])) limits
enable_part limits = grind (arith, in_none)

pub enable_sends : (limits : Limits) (old new : BusState) → Sends (6 ∷ []) old new → SendsWithin limits old new
enable_sends limits old new sends =
    sends_more (limits_of (6 ∷ [])) limits old new (enable_part limits) (sends_one (6 ∷ []) old new refl sends)

pub command_sends : (out : List ℕ) (old ready new : BusState) → is_unknown_to_model out ≡ false
    → Sends (6 ∷ []) old ready → Sends out ready new → SendsWithin (limits_of out) old new
command_sends out old ready new known enables sends =
    let enable = enable_part (limits_of out) in
    sends_then (limits_of (6 ∷ [])) (limits_of out) (limits_of out) old ready new
    (grind (arith, enable.sectors, enable.bytes, enable.status)) (sends_one (6 ∷ []) old ready refl enables)
    (sends_one out ready new known sends)

pub command_exactly : (out : List ℕ) (old ready new : BusState) → Sends (6 ∷ []) old ready → Sends out ready new
    → SendsExactly (limits_of out).erases (limits_of out).programs (limits_of out).status_writes old new
command_exactly out old ready new enables sends =
    exactly_then (omega arith) (omega arith) (omega arith) (exactly_one (6 ∷ []) old ready enables)
    (exactly_one out ready new sends)

pub still_stirred : (out : List ℕ) (old new : BusState) → is_stirred old.sent ≡ true → Sends out old new
    → is_stirred new.sent ≡ true
still_stirred out old new is sends = grind (arith, sends.sent.stirred)
