use Rattle.std.specs.Prelude.{◌≡◌, ◌≤◌, ◌+◌, ◌++◌, ◌⊎◌, ℕ, Bool, true, false, List, if◌then◌else◌}
use Rattle.nor_model.specs.Chip.{Chip}
use Rattle.nor_model.specs.Sent.{Sent, targets, begins_erase, begins_program, begins_status_write, writes_status, is_targeted, has_written, has_programmed, programs_at, is_byte, has_unknown, erases_of, programs_of, status_writes_of}
use Rattle.nor_model.specs.Bus.{BusState, KeepsNature}
use Rattle.nor_driver.specs.OnlyReads.{Falls}

-- Limits on modifying commands other than write enables: the sectors that erases and page programs may target, the byte
-- that a page program may program at an address, the two bytes that a status write may send, and the numbers of these
-- commands.
pub record Limits : Type 0 where
  pub sectors : ℕ → Bool
  pub bytes : (a byte : ℕ) → Bool
  pub status : (one two : ℕ) → Bool
  pub erases : ℕ
  pub programs : ℕ
  pub status_writes : ℕ

abbrev pub no_sector : ℕ → Bool
no_sector s = false

abbrev pub no_byte : (a byte : ℕ) → Bool
no_byte a byte = false

abbrev pub no_status : (one two : ℕ) → Bool
no_status one two = false

abbrev pub erasing : (sectors : ℕ → Bool) → (n : ℕ) → Limits
erasing sectors n = record {
  sectors = sectors;
  bytes = no_byte;
  status = no_status;
  erases = n;
  programs = 0;
  status_writes = 0;
}

abbrev pub programming : (sectors : ℕ → Bool) → (bytes : (a byte : ℕ) → Bool) → (n : ℕ) → Limits
programming sectors bytes n = record {
  sectors = sectors;
  bytes = bytes;
  status = no_status;
  erases = 0;
  programs = n;
  status_writes = 0;
}

abbrev pub writing : (status : (one two : ℕ) → Bool) → (n : ℕ) → Limits
writing status n = record {
  sectors = no_sector;
  bytes = no_byte;
  status = status;
  erases = 0;
  programs = 0;
  status_writes = n;
}

abbrev pub limits_of : (out : List ℕ) → Limits
limits_of out = record {
  sectors = targets out;
  bytes = λ a byte. is_byte (programs_at out a) byte;
  status = writes_status out;
  erases = if begins_erase out then 1 else 0;
  programs = if begins_program out then 1 else 0;
  status_writes = if begins_status_write out then 1 else 0;
}

pub record SendsWithin (limits : Limits) (old new : BusState) : Type 0 where
  pub targeted : (s : ℕ) → (is_targeted new.sent s ≡ is_targeted old.sent s) ⊎ (limits.sectors s ≡ true)
  pub programmed : (a byte : ℕ)
      → (has_programmed new.sent a byte ≡ has_programmed old.sent a byte) ⊎ (limits.bytes a byte ≡ true)
  pub written : (one two : ℕ)
      → (has_written new.sent one two ≡ has_written old.sent one two) ⊎ (limits.status one two ≡ true)
  pub erases : erases_of new.sent ≤ erases_of old.sent + limits.erases
  pub programs : programs_of new.sent ≤ programs_of old.sent + limits.programs
  pub status_writes : status_writes_of new.sent ≤ status_writes_of old.sent + limits.status_writes
  pub unknown : has_unknown new.sent ≡ has_unknown old.sent

pub record SendsExactly (erases programs status_writes : ℕ) (old new : BusState) : Type 0 where
  pub later : Sent
  pub added : new.sent ≡ later ++ old.sent
  pub erased : erases_of new.sent ≡ erases_of old.sent + erases
  pub programmed : programs_of new.sent ≡ programs_of old.sent + programs
  pub wrote_status : status_writes_of new.sent ≡ status_writes_of old.sent + status_writes

-- Holds at every exit of a call in which a well-behaved punctual bus carries out at most `most` transactions.
pub record Spends (most : ℕ) (old new : BusState) : Type 0 where
  pub nature : KeepsNature old new
  pub falls : old.honest ≡ true → Falls most old new

-- Holds at every exit of a call: its modifying commands are within `limits`, and a well-behaved punctual bus carried
-- out at most `most` transactions. If `Can` held for the chip of a well-behaved bus, `May` relates the two states.
pub record Leaves (most : ℕ) (limits : Limits) (Can : Chip → Type 0) (May : BusState → BusState → Type 0)
    (old new : BusState) : Type 0 where
  pub spends : Spends most old new
  pub sends : SendsWithin limits old new
  pub reached : old.honest ≡ true → Can old.chip → May old new
