-- The transactions that may modify a chip: all except empty ones and those with a quiet opcode (`is_quiet_opcode`).
use Rattle.std.specs.Prelude.{◌≡◌, ◌+◌, ◌-◌, ◌*◌, ◌/◌, ◌==◌, ◌&&◌, ◌||◌, not, ℕ, Bool, true, false, List, [], ◌∷◌, length, slice_index, nat_le, nat_lt, Option, Some, None, if◌then◌else◌}
use Rattle.nor_model.specs.Exchange.{Exchange}
use Rattle.nor_model.specs.Command.{begins_change, begins_quiet, is_change, is_erase_opcode}

pub record TargetedSectors : Type 0 where
  pub first : ℕ
  pub count : ℕ

abbrev pub all_targeted : TargetedSectors
all_targeted = record { first = 0; count = 4096 }

abbrev pub none_targeted : TargetedSectors
none_targeted = record { first = 0; count = 0 }

abbrev pub block_targeted : (count sector : ℕ) → TargetedSectors
block_targeted count sector = record { first = sector / count * count; count = count }

abbrev pub bare_targeted : (opcode : ℕ) → TargetedSectors
bare_targeted opcode = if opcode == 0xC7 then all_targeted else none_targeted

abbrev pub addressed_targeted : (opcode sector : ℕ) → TargetedSectors
addressed_targeted opcode sector =
    if opcode == 0x02 || opcode == 0x20 then block_targeted 1 sector
    else if opcode == 0x52 then block_targeted 8 sector
    else if opcode == 0xD8 then block_targeted 16 sector
    else bare_targeted opcode

abbrev pub targeted_by : (out : List ℕ) → TargetedSectors
targeted_by [] = none_targeted
targeted_by (opcode ∷ []) = bare_targeted opcode
targeted_by (opcode ∷ x ∷ []) = bare_targeted opcode
targeted_by (opcode ∷ x ∷ y ∷ []) = bare_targeted opcode
targeted_by (opcode ∷ x ∷ y ∷ z ∷ rest) = addressed_targeted opcode ((65536 * x + 256 * y + z) / 4096)

abbrev pub is_in_targeted : TargetedSectors → ℕ → Bool
is_in_targeted sectors s = nat_le sectors.first s && nat_lt s (sectors.first + sectors.count)

abbrev pub targets : (out : List ℕ) → ℕ → Bool
targets out s = is_in_targeted (targeted_by out) s

abbrev pub begins_erase : (out : List ℕ) → Bool
begins_erase [] = false
begins_erase (opcode ∷ rest) = is_erase_opcode opcode

abbrev pub begins_program : (out : List ℕ) → Bool
begins_program [] = false
begins_program (opcode ∷ rest) = opcode == 0x02

abbrev pub begins_status_write : (out : List ℕ) → Bool
begins_status_write [] = false
begins_status_write (opcode ∷ rest) = opcode == 0x01

abbrev pub writes_status : (out : List ℕ) → (one two : ℕ) → Bool
writes_status (opcode ∷ x ∷ y ∷ []) one two = opcode == 0x01 && x == one && y == two
writes_status _ one two = false

-- The byte at the address `a` if `bytes` lie from the address `at` on, or `None` if no byte lies there.
abbrev pub byte_from : (at : ℕ) → (bytes : List ℕ) → (a : ℕ) → Option ℕ
byte_from at bytes a = if nat_le at a && nat_lt a (at + length bytes) then Some (slice_index bytes (a - at)) else None

-- The byte that the page program `out` programs at the address `a`, or `None` if `out` is no page program or has no
-- byte for this address. Addresses count on from the program's own, without the wrap at the end of a page.
abbrev pub programs_at : (out : List ℕ) → (a : ℕ) → Option ℕ
programs_at (opcode ∷ x ∷ y ∷ z ∷ bytes) a =
    if opcode == 0x02 then byte_from (65536 * x + 256 * y + z) bytes a else None
programs_at _ a = None

abbrev pub is_byte : Option ℕ → (byte : ℕ) → Bool
is_byte (Some is) byte = byte == is
is_byte None byte = false

-- True if the model doesn't know a transaction that sends `out`. A real chip may carry it out: for example, 60h erases
-- the chip, and 31h writes status 2.
abbrev pub is_unknown_to_model : (out : List ℕ) → Bool
is_unknown_to_model out = not (begins_quiet out || is_change out)

abbrev pub Sent : Type 0
Sent = List (List ℕ)

abbrev pub with_sent : (out : List ℕ) → Sent → Sent
with_sent out before = if begins_quiet out then before else out ∷ before

abbrev pub sent_in : List Exchange → Sent
sent_in [] = []
sent_in (exchange ∷ earlier) = with_sent exchange.out (sent_in earlier)

abbrev pub has_sent : (is : List ℕ → Bool) → Sent → Bool
has_sent is [] = false
has_sent is (out ∷ before) = has_sent is before || is out

abbrev pub counted_once : (is : Bool) → (before : ℕ) → ℕ
counted_once is before = if is then before + 1 else before

abbrev pub times_sent : (is : List ℕ → Bool) → Sent → ℕ
times_sent is [] = 0
times_sent is (out ∷ before) = counted_once (is out) (times_sent is before)

abbrev pub is_stirred : Sent → Bool
is_stirred sent = has_sent begins_change sent

abbrev pub has_unknown : Sent → Bool
has_unknown sent = has_sent is_unknown_to_model sent

abbrev pub is_targeted : Sent → ℕ → Bool
is_targeted sent s = has_sent (λ (out : List ℕ). targets out s) sent

abbrev pub has_written : Sent → (one two : ℕ) → Bool
has_written sent one two = has_sent (λ (out : List ℕ). writes_status out one two) sent

-- True if some page program in `sent` programs `byte` at the address `a`.
abbrev pub has_programmed : Sent → (a byte : ℕ) → Bool
has_programmed sent a byte = has_sent (λ (out : List ℕ). is_byte (programs_at out a) byte) sent

abbrev pub erases_of : Sent → ℕ
erases_of sent = times_sent begins_erase sent

abbrev pub programs_of : Sent → ℕ
programs_of sent = times_sent begins_program sent

abbrev pub status_writes_of : Sent → ℕ
status_writes_of sent = times_sent begins_status_write sent

pub record RecordsSent (out : List ℕ) (old new : Sent) : Type 0 where
  pub quiet : begins_quiet out ≡ true → new ≡ old
  pub stirred : is_stirred new ≡ (is_stirred old || begins_change out)
  pub unknown : has_unknown new ≡ (has_unknown old || is_unknown_to_model out)
  pub targeted : (s : ℕ) → is_targeted new s ≡ (is_targeted old s || targets out s)
  pub written : (one two : ℕ) → has_written new one two ≡ (has_written old one two || writes_status out one two)
  pub programmed : (a byte : ℕ)
      → has_programmed new a byte ≡ (has_programmed old a byte || is_byte (programs_at out a) byte)
  pub erases : erases_of new ≡ counted_once (begins_erase out) (erases_of old)
  pub programs : programs_of new ≡ counted_once (begins_program out) (programs_of old)
  pub status_writes : status_writes_of new ≡ counted_once (begins_status_write out) (status_writes_of old)
