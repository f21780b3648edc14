use Rattle.std.proofs.Common.{◌≡◌, ◌∙◌, ◌<◌, ◌+◌, ◌*◌, ◌/◌, ◌%◌, ℕ, Bool, true, false, List, [], ◌∷◌, Ok, Option, ap, arith, inl, inr, refl, sym}
use Rattle.std.specs.Prelude.{◌==◌, slice_index}
use mathlib.Core.Bool.{beq}
use Rattle.std.proofs.lemmas.Bool.{eqb-true, false≢true}
use Rattle.nor_model.specs.declared.status.Status.{Status}
use Rattle.nor_model.specs.Bus.{BusState}
use Rattle.nor_model.specs.Chip.{kept_in}
use Rattle.nor_model.specs.Guard.{code_of}
use Rattle.nor_model.specs.History.{begins_with}
use Rattle.nor_model.specs.PolledReady.{is_poll}
use Rattle.nor_model.specs.Status.{bytes_of}
use Rattle.nor_driver.specs.Limits.{Limits, SendsWithin, writing}
use Rattle.nor_driver.specs.Reads.{ReadsStatus2}
use Rattle.nor_driver.specs.StatusWrites.{is_status_with_code}
use Rattle.nor_driver.specs.Waits.{EndsAt, Waits}
use Rattle.nor_driver.specs.declared.waits.OperationError.{OperationError}
use Rattle.nor_driver.specs.declared.waits.OperationError.TheVariants as failed
use Rattle.nor_driver.specs.declared.waits.Waited.{Waited}
use Rattle.nor_probe.specs.declared.probes.Found.{Found}
use Rattle.nor_probe.specs.declared.table.ChipName.{ChipName}
use Rattle.nor_request.specs.Refusal.{of_operation}
use Rattle.nor_request.specs.declared.refusal.Refusal.{Refusal}
use Rattle.nor_console.specs.declared.messages.Fault.TheVariants as end
use Rattle.nor_jobs.specs.Finding.{HasIdentified}
use Rattle.board_jobs.specs.Sends.{KeepsSent}
use Rattle.board_jobs.specs.StatusLocks.{FailsFound, FailsLock, HasSetSrp0, IsSet, ReadsStatus, SendsLock}
use Rattle.board_jobs.specs.StatusLocks.{bytes_with, sets_srp0, shows_srp0}
use Rattle.board_jobs.specs.declared.chip_faults.JobFault.TheVariants as ended

no_poll : (out : List ℕ) → begins_with 0x35 out ≡ true → is_poll out ≡ false
no_poll [] begins = refl
no_poll (opcode ∷ []) begins = ap (λ (byte : ℕ). byte == 5) (eqb-true opcode 0x35 begins)
no_poll (opcode ∷ next ∷ rest) begins = refl

pub status_read : (old polled new : BusState) (waited : Waited) (two : ℕ) → Waits old polled waited
    → ReadsStatus2 polled new two → KeepsSent old polled → KeepsSent polled new
    → ReadsStatus old new (waited.status1 ∷ two ∷ [])
status_read old polled new waited two waits second one other = record {
  polled = polled;
  waited = waited;
  waits = waits;
  second = second;
  first = refl;
  one_replied = rw (second.answered.history, no_poll second.answered.out second.answered.asks) waits.status;
  two_replied = rw (second.answered.history, second.answered.asks) refl;
  kept = other ∙ one;
}

one_same : (one two code : ℕ) → one % 4 ≡ 0 → code ≡ 32 * (two % 128 / 64 % 2) + one / 4 % 32
    → 128 * (one / 128) + 4 * (code % 32) ≡ one
one_same one two code low is = omega arith

two_same : (one two code : ℕ) → two < 128 → code ≡ 32 * (two % 128 / 64 % 2) + one / 4 % 32
    → two % 64 + 64 * (code / 32) ≡ two
two_same one two code below is = omega arith

low_bits : (srp0 : Bool) (before : List ℕ) → slice_index (bytes_with srp0 before) 0 % 4 ≡ 0
low_bits true before = omega arith
low_bits false before = omega arith

small_two : (srp0 : Bool) (before : List ℕ) → slice_index (bytes_with srp0 before) 1 < 128
small_two srp0 before = omega arith

module _ (srp0 : Bool) (before : List ℕ) (status : Status) (code : ℕ) (is : bytes_of status ≡ bytes_with srp0 before)
    (coded : code ≡ code_of (kept_in (bytes_of status))) where
  one_is : status.one.0 ≡ slice_index (bytes_with srp0 before) 0
  one_is = ap (λ (bytes : List ℕ). slice_index bytes 0) is

  two_is : status.two.0 ≡ slice_index (bytes_with srp0 before) 1
  two_is = ap (λ (bytes : List ℕ). slice_index bytes 1) is

  first_sent : 128 * (status.one.0 / 128) + 4 * (code % 32) ≡ slice_index (bytes_with srp0 before) 0
  first_sent =
      one_same status.one.0 status.two.0 code (ap (λ (x : ℕ). x % 4) one_is ∙ low_bits srp0 before) coded ∙ one_is

  second_sent : status.two.0 % 64 + 64 * (code / 32) ≡ slice_index (bytes_with srp0 before) 1
  second_sent = two_same status.one.0 status.two.0 code (rw two_is (small_two srp0 before)) coded ∙ two_is

  same_write : (one two : ℕ) → is_status_with_code status code one two ≡ sets_srp0 srp0 before one two
  same_write one two = rw (first_sent, second_sent) refl

  pub sets_within : (old new : BusState) → SendsWithin (writing (is_status_with_code status code) 1) old new
      → SendsWithin (writing (sets_srp0 srp0 before) 1) old new
  sets_within old new sends = record {
    targeted = sends.targeted;
    programmed = sends.programmed;
    written = λ one two. elim (sends.written one two) [
      | inl same ↦ inl same
      | inr sent ↦ inr (sym (same_write one two) ∙ sent)
    ];
    erases = sends.erases;
    programs = sends.programs;
    status_writes = sends.status_writes;
    unknown = sends.unknown;
  }

pub within_reads : (limits : Limits) (old mid new : BusState) → SendsWithin limits old mid → KeepsSent mid new
    → SendsWithin limits old new
within_reads limits old mid new sends same = record {
  targeted = λ s. rw same (sends.targeted s);
  programmed = λ a byte. rw same (sends.programmed a byte);
  written = λ one two. rw same (sends.written one two);
  erases = rw same sends.erases;
  programs = rw same sends.programs;
  status_writes = rw same sends.status_writes;
  unknown = rw same sends.unknown;
}

pub kept_on : (old mid new : BusState) → KeepsSent old mid → KeepsSent mid new → KeepsSent old new
kept_on old mid new one other = other ∙ one

pub equal_bits : (a b : Bool) → beq a b ≡ true → a ≡ b
equal_bits true true same = refl
equal_bits false false same = refl
equal_bits true false same = absurd (false≢true same)
equal_bits false true same = absurd (false≢true same)

pub other_bits : (a b : Bool) → beq a b ≡ false → a ≡ b → ⊥
other_bits true true other same = false≢true (sym other)
other_bits false false other same = false≢true (sym other)
other_bits true false other same = false≢true (sym same)
other_bits false true other same = false≢true same

module _ (named : Option ChipName) (srp0 : Bool) (chip : Found) (before : List ℕ) (old found read new : BusState)
    (identified : HasIdentified named old found (Ok chip)) (status : ReadsStatus found read before)
    (clear : slice_index before 1 % 2 ≡ 0) where
  pub lock_set : (after : Option (List ℕ)) → chip.scheme ≡ true → IsSet srp0 before after read new
      → HasSetSrp0 named srp0 old new (record { found = chip; before = before; after = after })
  lock_set after known set = record {
    found = found;
    read = read;
    identified = identified;
    known = known;
    before = status;
    open_to = clear;
    set = set;
  }

  pub lock_sends : (shown : Bool) → shown ≡ shows_srp0 (slice_index before 0) → beq shown srp0 ≡ false
      → SendsWithin (writing (sets_srp0 srp0 before) 1) read new → SendsLock srp0 old new
  lock_sends shown is other within = inr (record {
    read = read;
    before = before;
    kept = kept_on old found read identified.always.only_reads.sent status.kept;
    one = status.one_replied;
    two = status.two_replied;
    open_to = clear;
    differs = λ same. other_bits _ _ other (is ∙ same);
    within = within;
  })

pub lock_fails : (named : Option ChipName) (chip : Found) (srp0 : Bool) (old found new : BusState) (error : Refusal)
    → HasIdentified named old found (Ok chip) → FailsFound chip found new error
    → FailsLock named srp0 old new (ended.Fault (end.Refused error))
lock_fails named chip srp0 old found new error identified fails =
    inr (error, record { chip = chip; found = found; identified = identified; fails = fails }, refl)

pub operation_fails : (chip : Found) (old new : BusState) (error : OperationError) → EndsAt error new.history
    → FailsFound chip old new (of_operation error)
operation_fails chip old new failed.Stopped ends = ends
operation_fails chip old new (failed.Timeout address) ends = ends
