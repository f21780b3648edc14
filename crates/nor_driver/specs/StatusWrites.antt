use Rattle.std.specs.Prelude.{◌≡◌, ◌≢◌, ◌+◌, ◌*◌, ◌/◌, ◌%◌, ◌==◌, ◌&&◌, ◌++◌, ◌⊎◌, ℕ, Bool, false, not, List, [], ◌∷◌, Option, None, Some, if◌then◌else◌}
use Rattle.nor_model.specs.declared.running.Running.TheVariants as Runs
use Rattle.nor_model.specs.declared.status.Status.{Status}
use Rattle.nor_model.specs.Status.{bytes_of, bytes_with_code}
use Rattle.nor_model.specs.Chip.{Chip, KeptBits, is_locked, kept_in, lb3_to_srp1, srp0_bit}
use Rattle.nor_model.specs.Guard.{code_of}
use Rattle.nor_model.specs.Sent.{Sent, begins_status_write}
use Rattle.nor_model.specs.Step.{is_idle}
use Rattle.nor_model.specs.Bus.{BusState}
use Rattle.nor_driver.specs.Limits.{writing}
use Rattle.nor_driver.specs.Operations.{HasEnded, ChipOperation}

-- The non-volatile bits other than the protection bits: SRP0, and the bits from LB3 down to SRP1.
abbrev pub fixed_of : KeptBits → ℕ × ℕ
fixed_of kept = (srp0_bit kept, lb3_to_srp1 kept)

abbrev pub cmp_of : (code : ℕ) → ℕ
cmp_of code = code / 32

abbrev pub sec_to_bp0_of : (code : ℕ) → ℕ
sec_to_bp0_of code = code % 32

abbrev pub with_code : (code : ℕ) → KeptBits → KeptBits
with_code code kept = record {
  one = 32 * srp0_bit kept + sec_to_bp0_of code;
  two = 64 * cmp_of code + lb3_to_srp1 kept;
}

abbrev pub is_status_with_code : Status → (code one two : ℕ) → Bool
is_status_with_code status code one two =
    one == 128 * (status.one.0 / 128) + 4 * (code % 32) && two == status.two.0 % 64 + 64 * (code / 32)

pub record CanWriteStatus (status : Status) (chip : Chip) : Type 0 where
  pub idle : chip.busy ≡ 0
  pub open_to : is_locked chip.kept ≡ false
  pub fixed : fixed_of chip.kept ≡ fixed_of (kept_in (bytes_of status))

abbrev pub takes_status : Chip → Bool
takes_status chip = is_idle chip && not (is_locked chip.kept)

-- Holds at every exit of a status write that the chip of a well-behaved bus can carry out.
pub record MayWriteStatus (code : ℕ) (old new : BusState) : Type 0 where
  pub config : new.chip.config ≡ old.chip.config
  pub bytes : (a : ℕ) → new.chip.bytes a ≡ old.chip.bytes a
  pub kept : (new.chip.kept ≡ old.chip.kept) ⊎ (new.chip.kept ≡ with_code code old.chip.kept)
  pub runs : new.chip.busy ≢ 0 → new.chip.running ≡ Runs.StatusWrite old.chip.kept.one old.chip.kept.two
  pub worn : (s : ℕ) → new.worn s ≡ old.worn s

abbrev pub HasWrittenStatus : (code : ℕ) → (old new : BusState) → Type 0
HasWrittenStatus code old = HasEnded old.chip.bytes (with_code code old.chip.kept) old.worn old

abbrev pub status_write : Status → (code : ℕ) → ChipOperation
status_write status code = record {
  limits = writing (is_status_with_code status code) 1;
  can = CanWriteStatus status;
  ignores = λ chip. takes_status chip ≡ false;
  may = MayWriteStatus code;
  has = HasWrittenStatus code;
}

-- Holds if, since `old`, exactly a write enable and a status write with the protection bits `code` were sent.
abbrev pub SendsStatusWrite : Status → (code : ℕ) → (old new : BusState) → Type 0
SendsStatusWrite status code old new = new.sent ≡ (0x01 ∷ bytes_with_code status code) ∷ (0x06 ∷ []) ∷ old.sent

-- The protection bits that the status write `out` sends, or `None` if `out` doesn't have two bytes after the opcode.
abbrev pub code_sent : (out : List ℕ) → Option ℕ
code_sent (opcode ∷ one ∷ two ∷ []) = Some (code_of (kept_in (one ∷ two ∷ [])))
code_sent _ = None

-- The protection bits of the last status write in `sent`, or `before` if `sent` has no status write.
abbrev pub last_code : (before : Option ℕ) → Sent → Option ℕ
last_code before [] = before
last_code before (out ∷ earlier) = if begins_status_write out then code_sent out else last_code before earlier

-- Holds if `code` has the protection bits that were last written since `old` or, if no status write was sent since
-- `old`, equals `read`. A status write that doesn't send two bytes counts as one with unknown protection bits.
pub record EndsWithCode (read code : ℕ) (old new : BusState) : Type 0 where
  pub later : Sent
  pub added : new.sent ≡ later ++ old.sent
  pub last : last_code (Some read) later ≡ Some code
