-- The transactions that may modify a chip, as a programmer reads them from the frames that a port was asked to send.
-- Each call of the port is read on its own.
use Rattle.std.specs.Prelude.{◌==◌, ◌||◌, zero, suc, ℕ, Bool, false, List, [], ◌∷◌, Option, None, Some, drop, length, nat_le, slice_index, take, if◌then◌else◌}
use Rattle.nor_model.specs.Sent.{Sent, with_sent}
use Rattle.nor_serprog.specs.Frame.{frame_len, number_in, out_in}

abbrev pub data_len : (frame : List ℕ) → ℕ
data_len frame = number_in (slice_index frame 1) (slice_index frame 2) (slice_index frame 3)

-- The bytes that the first command in `bytes` sends to the chip. Other commands than O_SPIOP send none.
abbrev pub first_out : (bytes : List ℕ) → List ℕ
first_out bytes = if slice_index bytes 0 == 0x13 then take (data_len bytes) (out_in bytes) else []

-- True if `out` begins with ABh, which wakes a chip, or with FFh, which ends QPI mode and continuous reads.
abbrev pub begins_waking : (out : List ℕ) → Bool
begins_waking [] = false
begins_waking (opcode ∷ rest) = opcode == 0xAB || opcode == 0xFF

abbrev pub with_modifying : (out : List ℕ) → Sent → Sent
with_modifying out before = if begins_waking out then before else with_sent out before

-- What follows the first command in `bytes`, or `None` if `bytes` begin with no whole command.
abbrev pub after_command : (len : Option ℕ) → (bytes : List ℕ) → Option (List ℕ)
after_command None bytes = None
after_command (Some len) bytes = if nat_le len (length bytes) then Some (drop len bytes) else None

-- `before`, and then the transactions of the commands in `bytes`. What is left after the last whole command, or after
-- `most` commands, counts as a transaction.
abbrev pub with_commands : (most : ℕ) → (bytes : List ℕ) → Sent → Sent
with_commands most [] before = before
with_commands zero (byte ∷ rest) before = (byte ∷ rest) ∷ before
with_commands (suc most) (byte ∷ rest) before = elim (after_command (frame_len (byte ∷ rest)) (byte ∷ rest)) [
  | None ↦ (byte ∷ rest) ∷ before
  | Some later ↦ with_commands most later (with_modifying (first_out (byte ∷ rest)) before)
]

-- The transactions of all calls that may modify a chip, except those that begin with ABh or FFh (`begins_waking`). The
-- last one comes first.
abbrev pub modifying_in : (asked : List (List ℕ)) → Sent
modifying_in [] = []
modifying_in (call ∷ earlier) = with_commands (length call) call (modifying_in earlier)

-- The transactions of these calls that may modify a chip, and then a write enable if one is held back (`waits`).
abbrev pub passed_by : (waits : Bool) → (asked : List (List ℕ)) → Sent
passed_by waits asked = if waits then (0x06 ∷ []) ∷ modifying_in asked else modifying_in asked
