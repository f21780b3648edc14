-- The pauses before polls. All times are in microseconds. `elapsed` is the time since the last operation began.
use Rattle.std.specs.Prelude.{◌+◌, ◌-◌, ◌*◌, ◌/◌, ◌^◌, ◌==◌, ◌||◌, nat_lt, ℕ, zero, suc, true, List, [], ◌∷◌, Option, None, Some, min, max, if◌then◌else◌}
use Rattle.nor_model.specs.PolledReady.{polled_ready_after}

-- The number of polls in a row that showed BUSY, counted after the transaction `out` and at most 2^64 - 1. `before` is
-- this number before the transaction.
abbrev pub busy_row_after : (out answer : List ℕ) → (before : ℕ) → ℕ
busy_row_after out answer before = if polled_ready_after out answer true then 0 else min (before + 1) (2 ^ 64 - 1)

-- The typical duration of the operation that a transaction begins. An erase of the whole chip counts as one of 64 KiB.
-- (W25Q64FV datasheet, AC characteristics.)
abbrev pub typical_of : (out : List ℕ) → Option ℕ
typical_of [] = None
typical_of (opcode ∷ rest) =
    if opcode == 0x02 then Some 700
    else if opcode == 0x01 then Some 10000
    else if opcode == 0x20 then Some 45000
    else if opcode == 0x52 then Some 120000
    else if opcode == 0xD8 || opcode == 0xC7 then Some 150000
    else None

abbrev pub typical_after : (out : List ℕ) → (before : ℕ) → ℕ
typical_after out before = elim (typical_of out) [ None ↦ before | Some typical ↦ typical ]

abbrev pub third_pause : (typical : ℕ) → ℕ
third_pause typical = min 6250 (max 100 (typical / 16))

-- The pause before the first poll of a wait: the rest of the typical duration, or 0 if that duration is over 1 ms.
abbrev pub first_pause : (typical elapsed : ℕ) → ℕ
first_pause typical elapsed = if nat_lt 1000 typical then 0 else typical - elapsed

-- The pause before a poll that follows exactly `busy_polls` polls in a row that showed BUSY.
abbrev pub pause_before : (typical elapsed busy_polls : ℕ) → ℕ
pause_before typical elapsed busy_polls =
    if busy_polls == 0 then first_pause typical elapsed
    else if busy_polls == 1 then typical - elapsed
    else min 6250 (third_pause typical * 2 ^ min 6 (busy_polls / 16))

-- The sum of the pauses before the first `polls` polls of a wait, if all of them show BUSY and `elapsed` stays the
-- same.
unfoldable pub pauses : (typical elapsed polls : ℕ) → ℕ
pauses typical elapsed zero = 0
pauses typical elapsed (suc polls) = pauses typical elapsed polls + pause_before typical elapsed polls
